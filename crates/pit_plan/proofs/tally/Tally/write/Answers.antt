use Rattle.std.proofs.Common.{ℕ, List, Option, None, get_or, sym, ap, ◌∙◌, arith}
use Rattle.std.specs.Prelude.{slice_set}
use Rattle.std.proofs.lemmas.List.{get_or-set_same}
use Rattle.pit_plan.specs.Schedule.{by_block}
use Rattle.pit_plan.proofs.Slots.{with_writes-none, with_writes-more, set-twice}
use Rattle.pit_plan.proofs.tally.Tally.write.Goals as goal

pub loop-block-init : goal.loop-block-init
loop-block-init g c = (sym (with_writes-none (λ w. w.1) c.args.self.now.periods), c.requires.tally)

pub put_in-requires-clause-none : goal.put_in-requires-clause-none
put_in-requires-clause-none g c =
    let w = get_or c.args.writes.now c.loop-block.block-index (0, None) in
    let below = c.requires.fits.keys c.loop-block.block-index (0, None) c.loop-block-test.true in
    ap (λ (ps : List (Option ℕ)). by_block ps w.0) c.take_out.ensures.periods
    ∙ get_or-set_same c.loop-block.self.periods w.0 None None (omega (arith, below, c.loop-block.invariant.1.each_period))

pub loop-block-preserved : goal.loop-block-preserved
loop-block-preserved g c =
    let w = get_or c.args.writes.now c.loop-block.block-index (0, None) in (
      c.put_in.ensures.periods
          ∙ (ap (λ (ps : List (Option ℕ)). slice_set ps w.0 w.1) c.take_out.ensures.periods
          ∙ (set-twice c.loop-block.self.periods w.0 None w.1
          ∙ with_writes-more (λ v. v.1) c.args.self.now.periods c.loop-block.self.periods c.args.writes.now c.loop-block.block-index (0, None) c.loop-block-test.true c.loop-block.invariant.0)),
      c.put_in.ensures.tally,
    )
