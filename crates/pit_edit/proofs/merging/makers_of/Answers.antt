use Rattle.std.proofs.Common.{◌≡◌, ◌+◌, List, [], length, take, refl, sym, subst, arith}
use Rattle.std.proofs.lemmas.List.{length-take-le, take_all}
use Rattle.pit_desk.specs.History.{Answered}
use Rattle.pit_log.specs.Makers.{AreMakers}
use Rattle.pit_log.proofs.CallerLemmas.{makers-none, makers-after, taken-more}
use Rattle.pit_edit.proofs.merging.makers_of.Goals as goal

pub loop-entry-init : goal.loop-entry-init
loop-entry-init g c = record { number = refl; made = subst (AreMakers []) (sym c.new-makers.ensures.items) makers-none }

pub loop-entry-preserved : goal.loop-entry-preserved
loop-entry-preserved g c =
    let history = c.args.history.now in
    let i = c.loop-entry.entry-index in
    let e = c.entry-item.result in
    let known = c.loop-entry.invariant in
    let number : c.loop-entry.number + 1 ≡ length (take i history) + 1 = omega (arith, known.number, length-take-le i history (omega (arith, c.loop-entry-test.true))) in
    record {
      number = omega (arith, known.number);
      made = subst (λ (h : List Answered). AreMakers h c.note_maker.new.makers.items) (sym (taken-more history i e c.loop-entry-test.true c.entry-item.is))
          (makers-after (take i history) e c.loop-entry.makers.items c.note_maker.new.makers.items (c.loop-entry.number + 1) c.in_ok-note_maker.ensures known.made number);
    }

pub returns : goal.returns
returns g c = subst (λ (h : List Answered). AreMakers h c.loop-entry.makers.items) (take_all c.loop-entry.entry-index c.args.history.now c.loop-entry-test.false) c.loop-entry.invariant.made
