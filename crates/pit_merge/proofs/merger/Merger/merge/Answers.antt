use Rattle.std.proofs.Common.{refl, subst, arith}
use Rattle.pit_merge.specs.Edits.{Merged}
use Rattle.pit_merge.specs.Inside.Begun.{IsMergedOn}
use Rattle.std.specs.Prelude.{take}
use Rattle.pit_merge.proofs.Taken.{entered-front, entered-longer}
use Rattle.pit_merge.proofs.merger.Merger.merge.Goals as goal

pub invariant_of-result : goal.invariant_of-result
invariant_of-result g c =
    let old = c.self.inside.merging in
    let is = c.in-Ok.ensures in
    omega (arith, c.self.invariant, entered-longer old.desk.plan.pit old.desk.history c.merge_into.new.merging.desk.history c.args.edit.now is.kept is.reply is.entered)

pub returns-in-Ok : goal.returns-in-Ok
returns-in-Ok g c =
    let old = c.self.inside.merging in
    let new = c.merge_into.new.merging in
    let is = c.in-Ok.ensures in
    let n = c.self.inside.ours in
    let now : Merged = record { ours = take n new.desk.history; is_resumed = c.self.inside.is_resumed; merging = new } in
    subst (λ (before : Merged). IsMergedOn c.args.is_partial c.args.edit.now before now) c.self.view_is
    (record {
      merged = is;
      ours = entered-front old.desk.plan.pit old.desk.history new.desk.history c.args.edit.now is.kept is.reply n c.self.invariant is.entered;
      resumed_is = refl;
    })
