-- What `merge` does.
use Rattle.std.specs.Prelude.{◌≡◌, ◌⊎◌, ℕ, Bool, true, if◌then◌else◌, List, [], ◌++◌, Option, Ok, codes}
use Rattle.pit_model.specs.Pit.{Pit}
use Rattle.pit_plan.specs.Schedule.{Commit, held_period, value_of}
use Rattle.pit_plan.specs.Shortfalls.{shortfalls_of}
use Rattle.pit_desk.specs.History.{commits_of}
use Rattle.pit_desk.specs.State.{IsDeskKept}
use Rattle.pit_lines.specs.Texts.{history_text}
use Rattle.pit_step.specs.LineTexts.{value_text, shorts_text, left_text}
use Rattle.pit_step.specs.Steps.{Step, in_turn, judge_step, pass_step, may_step, run_step, through}
use Rattle.pit_step.specs.Devices.{Reading, Writing}
use Rattle.pit_step.specs.declared.fault.CliFault.{CliFault}
use Rattle.pit_step.specs.declared.fault.CliFault.TheVariants.{NoMemory}
use Rattle.pit_step.specs.declared.status.Status.{Status}
use Rattle.pit_step.specs.declared.status.Status.TheVariants.{Fine, Failed}
use Rattle.pit_opening.specs.Openings.{is_resumed, entries_before, IsGoodOpening, IsDeskOn, IsDeskFault}
use Rattle.pit_output.specs.Outputs.{new_line, Keeping, Outputs, outputs_run, IsUnwritten}
use Rattle.pit_merge.specs.declared.options.MergeOptions.{MergeOptions}
use Rattle.pit_merge.specs.Prepared.{Prepared}
use Rattle.pit_merge.specs.Edits.{Merged, edit_step}

-- ---- the desk

-- a desk is opened with it, and nothing is merged yet
pub record IsBegun (begun : Prepared) (merged : Merged) : Type 0 where
  pub ours : merged.ours ≡ entries_before begun.opening
  pub resumed_is : merged.is_resumed ≡ is_resumed begun.opening
  pub opened : IsDeskOn begun.pit begun.opening merged.merging.desk
  pub lines : merged.merging.lines ≡ []
  pub whole : merged.merging.is_whole ≡ true

-- none can be opened, or memory runs out behind it
abbrev pub IsNoDesk : Prepared → CliFault → Type 0
IsNoDesk begun fault = IsDeskFault begun.pit begun.opening fault ⊎ (IsGoodOpening begun.pit begun.opening × (fault ≡ NoMemory))

abbrev pub desk_step : Prepared → Step CliFault (Unit {0}) Merged
desk_step begun = judge_step (λ _. IsBegun begun) (λ _. IsNoDesk begun)

-- ---- the outputs

-- the lines of the edits, the value of what the commits leave, and the shortfalls
abbrev pub merge_report : Pit → List Commit → List ℕ → List ℕ
merge_report pit commits lines = lines ++ (codes "value " ++ (value_text (value_of pit (held_period commits)) ++ shorts_text (shortfalls_of pit (held_period commits))))

abbrev pub merge_outputs : Bool → Merged → Outputs
merge_outputs is_new merged = let desk = merged.merging.desk in record {
  solution = left_text desk.plan.pit (commits_of desk.history);
  report = new_line is_new ++ merge_report desk.plan.pit (commits_of desk.history) merged.merging.lines;
  history = history_text desk.history;
}

-- an edit was refused, or a part of one left out; or neither
abbrev pub merge_status : Bool → Status
merge_status is_whole = if is_whole then Fine else Failed

-- the outputs are gathered, or there is no memory for them; and then they are written
abbrev pub merged_run : Prepared → Writing → Writing → Option Keeping → Merged → Step CliFault (Unit {0}) Status
merged_run begun out lines kept merged =
    in_turn (may_step NoMemory) (outputs_run begun.is_carried_on (merge_outputs begun.is_new merged) (Ok (merge_status merged.merging.is_whole)) out lines kept)

-- ---- the run

-- the desk keeps a legal history, and the plan that this leaves
abbrev pub kept_step : Step CliFault Merged Merged
kept_step = pass_step (λ merged. IsDeskKept merged.merging.desk) (λ merged fault. ⊥)

-- a desk is opened, the edits are read and merged one after another, and the outputs are written
abbrev pub merge_run : MergeOptions → Prepared → List Reading → Writing → Writing → Option Keeping → Step CliFault (Unit {0}) Status
merge_run options begun edits out lines kept =
    in_turn (desk_step begun) (in_turn (through (edit_step options) 1 edits) (in_turn kept_step (run_step (merged_run begun out lines kept) (IsUnwritten out lines kept))))
