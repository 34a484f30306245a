-- What `show` has written, read again.
use Rattle.std.specs.Prelude.{◌≡◌, ◌⊎◌, ℕ, ◌<◌, true, false, List, [], ◌∷◌, ◌++◌, Option, IfSome, All}
use Rattle.pit_model.specs.Pit.{Pit}
use Rattle.pit_plan.specs.Schedule.{Commit, held_period}
use Rattle.pit_desk.specs.History.{Answered}
use Rattle.pit_lines.specs.Lines.{StandsForHistory}
use Rattle.pit_state.specs.States.{is_history, IsStateOf}
use Rattle.pit_show.specs.Show.{IsShown}
use Rattle.pit_base.specs.Marks.{is_feed}

-- each block of the pit has a period of the pit, or none
abbrev pub ArePeriodsOf : Pit → (ℕ → Option ℕ) → Type 0
ArePeriodsOf pit period = (b : ℕ) → b < pit.blocks → IfSome (period b) (λ t. t < pit.periods)

-- nothing, or a line that begins with a `%`, and its line feed
abbrev pub IsLeadingComment : List ℕ → Type 0
IsLeadingComment comment = (comment ≡ []) ⊎ ((words : List ℕ) × (comment ≡ 37 ∷ (words ++ 10 ∷ [])) × All (λ b. is_feed b ≡ false) words)

-- the text is that of a solution, and stands for the schedule that the commits leave
pub record StandsForLeft (pit : Pit) (text : List ℕ) (commits : List Commit) : Type 0 where
  pub kind : is_history text ≡ false
  pub again : List Commit
  pub stands : IsStateOf pit text again
  pub same : (b : ℕ) → b < pit.blocks → held_period again b ≡ held_period commits b

-- this is shown of a history with these entries
pub record IsShownOf (at : Option ℕ) (pit : Pit) (entries : List Answered) (answer : List ℕ) : Type 0 where
  pub text : List ℕ
  pub kind : is_history text ≡ true
  pub stands : StandsForHistory text entries
  pub shown : IsShown at pit text answer
