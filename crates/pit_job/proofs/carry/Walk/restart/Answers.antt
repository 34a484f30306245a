use Rattle.std.proofs.Common.{ℕ, List, sym, subst, ◌∙◌}
use Rattle.std.specs.List.{Contains}
use Rattle.pit_job.proofs.Walking.{there-is}
use Rattle.pit_job.proofs.carry.Walk.restart.Goals as goal

pub clear-requires : goal.clear-requires
clear-requires g c = record {
  all = λ b is. subst (λ (xs : List ℕ). Contains xs b) (sym c.deref.ensures.value) (there-is b c.self.inside.visited.items (sym (c.self.invariant b) ∙ is));
}
