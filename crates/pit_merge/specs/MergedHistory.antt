-- What the answer of a merge says.
use Rattle.std.specs.Prelude.{◌≡◌, ℕ, false, List, length, take, drop, Option}
use Rattle.std.specs.Io.KnownBytes.{Appends}
use Rattle.pit_plan.specs.Schedule.{held_period, value_of}
use Rattle.pit_desk.specs.History.{commits_of}
use Rattle.pit_desk.specs.OneThread.{IsOfOneThread}
use Rattle.pit_step.specs.Devices.{Reading, Writing}
use Rattle.pit_step.specs.Steps.{through}
use Rattle.pit_step.specs.declared.status.Status.{Status}
use Rattle.pit_opening.specs.Openings.{entries_before, IsGoodOpening}
use Rattle.pit_output.specs.Outputs.{Keeping, HasWhole}
use Rattle.pit_edit.specs.LaidOver.{laid_over}
use Rattle.pit_merge.specs.declared.options.MergeOptions.{MergeOptions}
use Rattle.pit_merge.specs.Prepared.{Prepared}
use Rattle.pit_merge.specs.Edits.{Merged, edit_step}
use Rattle.pit_merge.specs.Merge.{IsBegun, merge_outputs, merge_status}

-- What was written is that of one history of one thread. It begins with what the merge began with, and behind that has an entry at most for each edit, in
-- their order. What a block then has is what it had at the beginning, with the writes of the committed edits laid over, in order.
pub record IsOfOneMerge (options : MergeOptions) (begun : Prepared) (edits : List Reading) (out lines : Writing) (kept : Option Keeping) (status : Status) : Type 0 where
  pub start : Merged
  pub merged : Merged
  pub opened : IsBegun begun start
  pub taken : (through (edit_step options) 1 edits).Gives start merged
  pub good_opening : IsGoodOpening begun.pit begun.opening
  pub same_pit : merged.merging.desk.plan.pit ≡ begun.pit
  pub begins : take (length (entries_before begun.opening)) merged.merging.desk.history ≡ entries_before begun.opening
  pub laid : (b : ℕ) → held_period (commits_of merged.merging.desk.history) b
      ≡ laid_over b (held_period (commits_of (entries_before begun.opening)) b) (drop (length (entries_before begun.opening)) merged.merging.desk.history)
  pub one_thread : IsOfOneThread begun.pit merged.merging.desk.history (value_of begun.pit (held_period (commits_of merged.merging.desk.history)))
  pub solution : Appends out.before out.after (merge_outputs begun.is_new merged).solution
  pub report : Appends lines.before lines.after (merge_outputs begun.is_new merged).report
  pub sound : lines.failed ≡ false
  pub history : HasWhole kept (merge_outputs begun.is_new merged).history
  pub ended : status ≡ merge_status merged.merging.is_whole
