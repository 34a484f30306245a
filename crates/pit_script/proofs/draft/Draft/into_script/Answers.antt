use Rattle.std.proofs.Common.{sym, subst}
use Rattle.pit_script.specs.Jobs.{Progress}
use Rattle.pit_script.specs.Ranges.{AreJobsIn}
use Rattle.pit_script.proofs.draft.Draft.into_script.Goals as goal

pub of-requires-clause-in_range : goal.of-requires-clause-in_range
of-requires-clause-in_range g c = subst (λ (p : Progress). AreJobsIn c.args.benches p.jobs) (sym c.self.view_is) c.requires
