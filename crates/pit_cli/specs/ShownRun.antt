-- What `show` prints of the history that was written of a run.
use Rattle.std.specs.Prelude.{◌≡◌, ◌↔◌, ℕ, List, ◌++◌, length, None}
use Rattle.pit_model.specs.Pit.{Pit}
use Rattle.pit_desk.specs.History.{Answered, commits_of}
use Rattle.pit_show.specs.Fronts.{IsFront}
use Rattle.pit_show.specs.ShowText.{history_comment}
use Rattle.pit_show.specs.Show.{IsShown}
use Rattle.pit_output.specs.Outputs.{Outputs}

-- over a pit, just this is shown of its text: the comment on its entries up to the last commit, and then the solution that was written
pub record IsShownRun (pit : Pit) (history : List Answered) (outputs : Outputs) : Type 0 where
  pub front : List Answered
  pub is_front : IsFront history (length (commits_of history)) front
  pub shown : (answer : List ℕ) → IsShown None pit outputs.history answer ↔ (answer ≡ history_comment front ++ outputs.solution)
