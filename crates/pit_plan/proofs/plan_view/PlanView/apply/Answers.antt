use Rattle.std.proofs.Common.{◌+◌, length, sym, ap, subst, ◌∙◌}
use Rattle.pit_model.specs.Fitting.{Fits, RevisionsFit, revisions_of}
use Rattle.pit_plan.specs.Schedule.{Commit}
use Rattle.pit_plan.specs.Inside.Limits.{by_cell}
use Rattle.pit_plan.specs.Standing.{Standing, Adds}
use Rattle.pit_plan.proofs.Slots.{length-with_writes, with_writes-adds}
use Rattle.pit_plan.proofs.plan_view.PlanView.apply.Goals as goal

pub returns-clause-ok : goal.returns-clause-ok
returns-clause-ok g c =
    let kept = c.self.invariant in
    let fits = subst (λ (s : Standing). Fits s.pit.blocks s.pit.periods c.args.writes.now) (sym c.self.view_is) c.requires.writes in
    let revised = subst (λ (s : Standing). RevisionsFit s.pit.resources s.pit.periods (revisions_of c.args.revises.now)) (sym c.self.view_is) c.requires.revises in
    let commit : Commit = record { writes = c.args.writes.now; revises = revisions_of c.args.revises.now } in
    let old : Standing = record { pit = c.self.inside.pit; commits = c.self.inside.commits; periods = c.self.inside.tally.periods; versions = c.self.inside.versions.items; limits = c.self.inside.limits.items } in
    subst (λ (s : Standing). Adds s commit (record {
      pit = c.self.inside.pit;
      commits = c.self.inside.commits + 1;
      periods = c.write.new.self.periods;
      versions = c.write_versions.new.versions.items;
      limits = c.revise.new.limits.items;
    })) c.self.view_is
    (rw (c.write.ensures.periods, c.write_versions.ensures, c.revise.ensures) (with_writes-adds old commit kept.tally_is.each_period kept.each_version kept.each_limit fits revised))

pub invariant_of-self : goal.invariant_of-self
invariant_of-self g c = record {
  sound = c.self.invariant.sound;
  tally_is = c.write.ensures.tally;
  each_version = ap length c.write_versions.ensures ∙ (length-with_writes (λ w. c.self.inside.commits + 1) c.self.inside.versions.items c.args.writes.now ∙ c.self.invariant.each_version);
  each_limit = ap length c.revise.ensures ∙ (length-with_writes (λ v. v.1) c.self.inside.limits.items (by_cell c.self.inside.pit (revisions_of c.args.revises.now)) ∙ c.self.invariant.each_limit);
}
