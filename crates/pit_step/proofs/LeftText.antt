-- The solution that commits leave, by the periods that a plan keeps.
use Rattle.std.proofs.Common.{◌≡◌, ℕ, List, Option, length, ap, sym, ◌∙◌}
use Rattle.pit_plan.specs.Schedule.{Commit, by_block, held_period}
use Rattle.pit_plan.specs.Standing.{Standing, IsPlanOf}
use Rattle.pit_text.specs.Solution.{schedule_of}
use Rattle.pit_text.specs.SolutionText.{solution_text}
use Rattle.pit_text.proofs.CallerLemmas.{schedule_of-same}
use Rattle.pit_step.specs.LineTexts.{left_text}

of_plan : (plan : Standing) (commits : List Commit) → IsPlanOf plan commits → length plan.periods ≡ plan.pit.blocks
    → solution_text (schedule_of (length plan.periods) (by_block plan.periods)) ≡ left_text plan.pit commits
of_plan plan commits is count =
    ap (λ (pairs : List (ℕ × ℕ)). solution_text pairs)
    (ap (λ (n : ℕ). schedule_of n (by_block plan.periods)) count ∙ schedule_of-same plan.pit.blocks (by_block plan.periods) (held_period commits) is.period)

-- the same of the periods as they are found
pub left_text-of_periods : (plan : Standing) (periods : List (Option ℕ)) (commits : List Commit) → periods ≡ plan.periods → length periods ≡ plan.pit.blocks → IsPlanOf plan commits
    → solution_text (schedule_of (length periods) (by_block periods)) ≡ left_text plan.pit commits
left_text-of_periods plan periods commits same count stands =
    ap (λ (ps : List (Option ℕ)). solution_text (schedule_of (length ps) (by_block ps))) same ∙ of_plan plan commits stands (ap length (sym same) ∙ count)
