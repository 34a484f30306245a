-- The run of `show`.
use Rattle.std.specs.Prelude.{◌≡◌, ◌⊎◌, ℕ, ◌≤◌, ◌<◌, Bool, true, false, List, [], ◌++◌, length, take, Option, Some, unwrap_or}
use Rattle.pit_model.specs.Pit.{Pit}
use Rattle.pit_plan.specs.Schedule.{Commit}
use Rattle.pit_desk.specs.History.{Answered}
use Rattle.pit_lines.specs.Lines.{StandsForHistory}
use Rattle.pit_step.specs.declared.input.Input.TheVariants.{Schedule}
use Rattle.pit_step.specs.declared.fault.CliFault.{CliFault}
use Rattle.pit_step.specs.declared.fault.CliFault.TheVariants.{FewCommits}
use Rattle.pit_step.specs.declared.status.Status.{Status}
use Rattle.pit_step.specs.declared.status.Status.TheVariants.{Fine}
use Rattle.pit_step.specs.Steps.{Step, in_turn}
use Rattle.pit_step.specs.Devices.{Reading, Writing, input_step, write_step}
use Rattle.pit_step.specs.Inputs.{model_step}
use Rattle.pit_state.specs.States.{is_history, IsStateOf, IsStateFault}
use Rattle.pit_show.specs.Fronts.{IsFront}
use Rattle.pit_step.specs.LineTexts.{left_text}
use Rattle.pit_show.specs.ShowText.{history_comment}

-- how many of the commits are shown: as many as were asked for, or all
abbrev pub shown_count : Option ℕ → List Commit → ℕ
shown_count at commits = unwrap_or at (length commits)

-- the comment of a history, on the entries up to the last commit that is shown
pub record IsHistoryComment (text : List ℕ) (count : ℕ) (comment : List ℕ) : Type 0 where
  pub entries : List Answered
  pub stands : StandsForHistory text entries
  pub front : List Answered
  pub is_front : IsFront entries count front
  pub says : comment ≡ history_comment front

-- a history has a comment, and a solution has none
abbrev pub IsCommentBy : Bool → List ℕ → ℕ → List ℕ → Type 0
IsCommentBy true = IsHistoryComment
IsCommentBy false = λ text count comment. comment ≡ []

unfoldable pub IsComment : List ℕ → ℕ → List ℕ → Type 0
IsComment text count comment = IsCommentBy (is_history text) text count comment

-- the comment, and then the solution that the first commits leave, as many as are shown
pub record IsShown (at : Option ℕ) (pit : Pit) (text answer : List ℕ) : Type 0 where
  pub commits : List Commit
  pub stands : IsStateOf pit text commits
  pub enough : shown_count at commits ≤ length commits
  pub comment : List ℕ
  pub is_comment : IsComment text (shown_count at commits) comment
  pub says : answer ≡ comment ++ left_text pit (take (shown_count at commits) commits)

-- there are so many commits, and fewer than were asked for
abbrev pub IsTooFew : Option ℕ → List Commit → CliFault → Type 0
IsTooFew (Some asked) commits (FewCommits count) = (count ≡ length commits) × (length commits < asked)
IsTooFew at commits other = ⊥

-- a fault of the text or of its entries comes first, and then that there are too few commits
abbrev pub IsShowFault : Option ℕ → Pit → List ℕ → CliFault → Type 0
IsShowFault at pit text fault =
    IsStateFault Schedule pit text fault ⊎ ((commits : List Commit) × IsStateOf pit text commits × IsTooFew at commits fault)

abbrev pub show_step : Option ℕ → Reading → Step CliFault Pit (List ℕ)
show_step at schedule = input_step Schedule schedule (IsShown at) (IsShowFault at)

-- the model, the schedule, and then what is shown is written
abbrev pub show_run : Option ℕ → Reading → Reading → Writing → Step CliFault (Unit {0}) Status
show_run at model schedule out = in_turn (model_step model) (in_turn (show_step at schedule) (write_step out (λ text. text) (λ text. Fine)))
