-- What is so of the last commit, and of those of a desk.
use Rattle.std.proofs.Common.{◌≡◌, ◌<◌, ◌≤◌, ◌++◌, ◌∷◌, [], ℕ, List, Option, Some, All, IfSome, refl, subst, arith}
use Rattle.std.proofs.lemmas.List.Elements.{All-pop, All-weaker}
use Rattle.std.proofs.lemmas.Option.{IfSome_then}
use Rattle.pit_model.specs.Fitting.{Fits}
use Rattle.pit_num.specs.declared.limits.TheConstants.{PERIODS_MAX}
use Rattle.pit_model.specs.Pit.{Pit}
use Rattle.pit_plan.specs.Schedule.{Commit}
use Rattle.pit_desk.specs.History.{Answered, commits_of}
use Rattle.pit_desk.specs.State.{State, IsDeskKept}
use Rattle.pit_desk.proofs.CallerLemmas.{commits-fit}
use Rattle.pit_board.specs.Prefixes.{AreLawful}

-- the commits of a desk on this pit, whose history is this one
pub desk-lawful : (pit : Pit) (history : List Answered) (desk : State) → IsDeskKept desk → desk.plan.pit ≡ pit → desk.history ≡ history → AreLawful pit (commits_of history)
desk-lawful pit history desk kept same is =
    let here : AreLawful desk.plan.pit (commits_of desk.history) = record { good = kept.follows.good; fit = commits-fit desk.history desk.plan kept.follows } in
    subst (λ (p : Pit). AreLawful p (commits_of history)) same (subst (λ (h : List Answered). AreLawful desk.plan.pit (commits_of h)) is here)

-- in a pit of few periods, those of the last commit's writes are low
pub last-periods : (pit : Pit) (commits : List Commit) (w : Commit) → AreLawful pit (commits ++ w ∷ []) → pit.periods ≤ PERIODS_MAX
    → All (λ write. IfSome write.1 (λ t. t < PERIODS_MAX)) w.writes
last-periods pit commits w lawful few =
    let fits : Fits pit.blocks pit.periods w.writes = (All-pop (λ (commit : Commit). Fits pit.blocks pit.periods commit.writes) (commits ++ w ∷ []) commits (Some w) refl lawful.fit).1 in
    All-weaker (λ (write : ℕ × Option ℕ). IfSome write.1 (λ t. t < pit.periods)) (λ (write : ℕ × Option ℕ). IfSome write.1 (λ t. t < PERIODS_MAX))
    (λ write below. IfSome_then write.1 below (λ t less. omega (arith, less, few))) w.writes fits.values
