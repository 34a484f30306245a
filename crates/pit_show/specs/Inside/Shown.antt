-- What is shown of a history's entries, and of a solution's pairs.
use Rattle.std.specs.Prelude.{◌≡◌, ◌⊎◌, ℕ, ◌≤◌, List, ◌++◌, length, take, Option}
use Rattle.pit_model.specs.Pit.{Pit}
use Rattle.pit_plan.specs.Schedule.{Commit}
use Rattle.pit_desk.specs.History.{Answered, commits_of}
use Rattle.pit_step.specs.declared.input.Input.TheVariants.{Schedule}
use Rattle.pit_step.specs.declared.fault.CliFault.{CliFault}
use Rattle.pit_step.specs.declared.fault.CliFault.TheVariants.{NoMemory}
use Rattle.pit_state.specs.States.{EachFits, IsUnfit, commits_of_schedule}
use Rattle.pit_show.specs.Fronts.{IsFront}
use Rattle.pit_step.specs.LineTexts.{left_text}
use Rattle.pit_show.specs.ShowText.{history_comment}
use Rattle.pit_show.specs.Show.{shown_count, IsTooFew}

-- after so many commits of these entries
pub record IsFrontShown (pit : Pit) (entries : List Answered) (count : ℕ) (answer : List ℕ) : Type 0 where
  pub front : List Answered
  pub is_front : IsFront entries count front
  pub says : answer ≡ history_comment front ++ left_text pit (take count (commits_of entries))

pub record AreEntriesShown (at : Option ℕ) (pit : Pit) (entries : List Answered) (answer : List ℕ) : Type 0 where
  pub fits : EachFits pit entries
  pub enough : shown_count at (commits_of entries) ≤ length (commits_of entries)
  pub shown : IsFrontShown pit entries (shown_count at (commits_of entries)) answer

-- one doesn't fit, or there are too few commits, or memory runs out
abbrev pub AreNotShown : Option ℕ → Pit → List Answered → CliFault → Type 0
AreNotShown at pit entries fault = IsUnfit Schedule pit entries fault ⊎ (EachFits pit entries × IsTooFew at (commits_of entries) fault)

-- of a solution
pub record ArePairsShown (at : Option ℕ) (pit : Pit) (pairs : List (ℕ × ℕ)) (answer : List ℕ) : Type 0 where
  pub enough : shown_count at (commits_of_schedule pairs) ≤ length (commits_of_schedule pairs)
  pub says : answer ≡ left_text pit (take (shown_count at (commits_of_schedule pairs)) (commits_of_schedule pairs))

-- there are enough commits, and memory runs out; or there are too few
abbrev pub IsWantOrFew : Option ℕ → List Commit → CliFault → Type 0
IsWantOrFew at commits fault = ((fault ≡ NoMemory) × (shown_count at commits ≤ length commits)) ⊎ IsTooFew at commits fault
