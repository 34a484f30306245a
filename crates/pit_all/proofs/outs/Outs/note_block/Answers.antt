use Rattle.std.proofs.Common.{ℕ, List, ap, subst, ◌∙◌, arith}
use Rattle.std.specs.Prelude.{flat_map}
use Rattle.std.proofs.lemmas.List.{take_all}
use Rattle.pit_model.specs.Pit.{Pit, preds_of}
use Rattle.pit_plan.specs.Schedule.{held_period}
use Rattle.pit_all.specs.Breaches.{out_at}
use Rattle.pit_all.specs.Outs.{Notes}
use Rattle.pit_step.proofs.CallerLemmas.{few-preds}
use Rattle.pit_all.proofs.Counted.{notes-step}
use Rattle.pit_all.proofs.outs.Outs.note_block.Goals as goal

pub note-requires-clause-room : goal.note-requires-clause-room
note-requires-clause-room g c =
    let few = few-preds c.deposit.result.now.blocks c.args.b c.preds-a-items.result.now c.preds-a-items.ensures.sound in
    let same = ap (λ (p : Pit). p.blocks) c.deposit.ensures in
    omega (arith, few, same, c.loop-a.invariant.0, c.loop-a-test.true, c.requires.room)

pub loop-a-preserved : goal.loop-a-preserved
loop-a-preserved g c = (
  omega (arith, c.loop-a.invariant.0, c.in_ok-note.ensures.count),
  λ commits stands.
      notes-step c.args.self.now c.loop-a.self c.note.new.self (held_period commits) c.args.b c.preds-a-items.result.now c.loop-a.a-index _ c.loop-a-test.true (c.loop-a.invariant.1 commits stands)
      (c.in_ok-note.ensures.notes commits stands),
)

pub returns-clause-count : goal.returns-clause-count
returns-clause-count g c =
    let few = few-preds c.deposit.result.now.blocks c.args.b c.preds-a-items.result.now c.preds-a-items.ensures.sound in
    let same = ap (λ (p : Pit). p.blocks) c.deposit.ensures in
    omega (arith, few, same, c.loop-a.invariant.0, c.loop-a.auto.a-index-end)

pub returns-clause-notes : goal.returns-clause-notes
returns-clause-notes g c = λ commits stands.
    subst (λ (preds : List ℕ). Notes c.args.self.now (flat_map (out_at (held_period commits) c.args.b) preds) c.loop-a.self)
    (take_all c.loop-a.a-index c.preds-a-items.result.now (omega (arith, c.loop-a-test.false)) ∙ c.preds-a-items.ensures.value ∙ ap (λ (p : Pit). preds_of p c.args.b) c.deposit.ensures)
    (c.loop-a.invariant.1 commits stands)
