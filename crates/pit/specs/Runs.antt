-- A run of the program, by what is told of the files that its words name.
use Rattle.std.specs.Prelude.{Bool, true, false, ℕ, List, [], ◌∷◌, Some, None, Result}
use Rattle.pit_step.specs.declared.input.Input.{Input}
use Rattle.pit_step.specs.declared.input.Input.TheVariants.{Model, Precedence, Solution, History, Schedule, Old, New}
use Rattle.pit_step.specs.declared.status.Status.{Status}
use Rattle.pit_step.specs.declared.fault.CliFault.{CliFault}
use Rattle.pit_step.specs.Steps.{Step, in_turn, judge_step, run_step, IsResultOf}
use Rattle.pit_step.specs.Devices.{Reading, Writing}
use Rattle.pit_view.specs.Value.{value_run}
use Rattle.pit_view.specs.Check.{check_run}
use Rattle.pit_view.specs.Replay.{replay_run}
use Rattle.pit_all.specs.CheckAll.{check_all_run}
use Rattle.pit_table.specs.Table.{table_run}
use Rattle.pit_diff.specs.Diff.{diff_run}
use Rattle.pit_info.specs.Info.{info_run}
use Rattle.pit_show.specs.Show.{show_run}
use Rattle.pit_log.specs.Log.{log_run}
use Rattle.pit_command.specs.declared.commands.Command.{Command}
use Rattle.pit_command.specs.declared.commands.Command.TheVariants.{Value, Check, Table, Diff, Info, Show, Plan, Replay, Log, Merge, Live}
use Rattle.pit_keyed.specs.declared.keys.Keys.{Keys}
use Rattle.pit.specs.Files.{Told, open_each}
use Rattle.pit.specs.Histories.{is_continued}
use Rattle.pit.specs.Sources.{pit_files}
use Rattle.pit.specs.PlanRun.{plan_by, plan_options}
use Rattle.pit.specs.MergeRun.{merge_by, merge_options}
use Rattle.pit.specs.LiveRun.{live_by}

-- what is checked: a solution, or any schedule where all is asked for
abbrev pub checked_input : Bool → Input
checked_input true = Schedule
checked_input false = Solution

-- the files of a view, in the order in which they are opened
abbrev pub view_files : Command → List (Input × List ℕ)
view_files (Value words) = (Model, words.model.now) ∷ (Solution, words.solution.now) ∷ []
view_files (Check words) = (Model, words.model.now) ∷ (Precedence, words.precedence.now) ∷ (checked_input words.is_all, words.solution.now) ∷ []
view_files (Table words) = (Model, words.model.now) ∷ (Schedule, words.schedule.now) ∷ []
view_files (Diff words) = (Model, words.model.now) ∷ (Old, words.old.now) ∷ (New, words.new.now) ∷ []
view_files (Info words) = pit_files words.model words.precedence words.blocks
view_files (Show words) = (Model, words.model.now) ∷ (Schedule, words.schedule.now) ∷ []
view_files (Replay words) = (Model, words.model.now) ∷ (Precedence, words.precedence.now) ∷ (History, words.history.now) ∷ []
view_files (Log words) = (Model, words.model.now) ∷ (Precedence, words.precedence.now) ∷ (History, words.history.now) ∷ []
view_files command = []

-- what `check` does on them
abbrev pub checked_run : Bool → Reading → Reading → Reading → Writing → Step CliFault (Unit {0}) Status
checked_run true = check_all_run
checked_run false = check_run

-- what a view does on them
unfoldable pub files_run : Command → Writing → List Reading → Step CliFault (Unit {0}) Status
files_run (Value words) out (model ∷ solution ∷ []) = value_run model solution out
files_run (Check words) out (model ∷ precedence ∷ solution ∷ []) = checked_run words.is_all model precedence solution out
files_run (Table words) out (model ∷ schedule ∷ []) = table_run model schedule out
files_run (Diff words) out (model ∷ old ∷ new ∷ []) = diff_run model old new out
files_run (Info words) out (model ∷ precedence ∷ []) = info_run model precedence None out
files_run (Info words) out (model ∷ precedence ∷ blocks ∷ []) = info_run model precedence (Some blocks) out
files_run (Show words) out (model ∷ schedule ∷ []) = show_run words.at model schedule out
files_run (Replay words) out (model ∷ precedence ∷ history ∷ []) = replay_run model precedence history out
files_run (Log words) out (model ∷ precedence ∷ history ∷ []) = log_run words.with_writes model precedence history out
files_run command out readings = judge_step (λ _ status. ⊥) (λ _ fault. ⊥)

-- its files are opened; where one can't be, the output is left alone so
abbrev pub view_run : Told → Command → Writing → Type 0 → Step CliFault (Unit {0}) Status
view_run told command out IsUntouched = in_turn (open_each told (view_files command)) (run_step (files_run command out) IsUntouched)

-- the result is that of what is asked for, with these keys; nothing is reported of a view
abbrev pub IsRunOf : Keys → Command → Told → Type 0 → Type 0 → Writing → Writing → Result Status CliFault → Type 0
IsRunOf keys (Plan words) told IsUntouched IsQuiet out lines result = IsResultOf (plan_by (is_continued words.origin) told words (plan_options keys words) out lines (IsUntouched × IsQuiet)) tt result
IsRunOf keys (Merge words) told IsUntouched IsQuiet out lines result = IsResultOf (merge_by (is_continued words.origin) told words (merge_options keys words) out lines (IsUntouched × IsQuiet)) tt result
IsRunOf keys (Live words) told IsUntouched IsQuiet out lines result = IsResultOf (live_by told words lines IsQuiet) tt result × IsUntouched
IsRunOf keys command told IsUntouched IsQuiet out lines result = IsResultOf (view_run told command out IsUntouched) tt result × IsQuiet
