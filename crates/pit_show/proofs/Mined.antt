-- The solution that commits leave, by the periods that a plan keeps.
use Rattle.std.proofs.Common.{◌≡◌, ℕ, zero, suc, ◌+◌, List, [], ◌++◌, Option, None, length, refl, ap, ◌∙◌}
use Rattle.std.specs.List.{filter_map, range_with_len}
use Rattle.pit_model.specs.Pit.{Pit}
use Rattle.pit_plan.specs.Schedule.{Commit, by_block, held_period}
use Rattle.pit_plan.specs.Standing.{Standing, IsPlanOf}
use Rattle.pit_plan.proofs.CallerLemmas.{held_period-nil}
use Rattle.pit_text.specs.Solution.{schedule_of, pair_of}
use Rattle.pit_text.specs.SolutionText.{solution_text}
use Rattle.pit_text.proofs.CallerLemmas.{schedule_of-same}
use Rattle.pit_step.specs.LineTexts.{left_text}
use Rattle.pit_step.proofs.CallerLemmas.{left_text-of_periods}

-- behind a comment
pub left_as : (plan : Standing) (periods : List (Option ℕ)) (comment text : List ℕ) (commits : List Commit) → periods ≡ plan.periods → length periods ≡ plan.pit.blocks → IsPlanOf plan commits
    → text ≡ comment ++ solution_text (schedule_of (length periods) (by_block periods)) → text ≡ comment ++ left_text plan.pit commits
left_as plan periods comment text commits same count stands is =
    is ∙ ap (λ (xs : List ℕ). comment ++ xs) (left_text-of_periods plan periods commits same count stands)

-- ---- after no commit

none-mined : (from blocks : ℕ) → filter_map (pair_of (λ b. None)) (range_with_len from blocks) ≡ []
none-mined from zero = refl
none-mined from (suc n) = none-mined (from + 1) n

schedule-none : (blocks : ℕ) → schedule_of blocks (λ b. None) ≡ []
unfolding schedule_of
schedule-none blocks = none-mined 0 blocks

solution-none : solution_text [] ≡ []
unfolding solution_text
solution-none = refl

pub left-none : (pit : Pit) → left_text pit [] ≡ []
left-none pit =
    ap (λ (pairs : List (ℕ × ℕ)). solution_text pairs) (schedule_of-same pit.blocks (held_period []) (λ b. None) (λ b below. held_period-nil b) ∙ schedule-none pit.blocks) ∙ solution-none
