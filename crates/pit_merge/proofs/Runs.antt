-- A merge behind its desk.
use Rattle.std.proofs.Common.{inl, inr, List, Option, Result, Ok, Err, refl}
use Rattle.pit_desk.specs.State.{IsDeskKept}
use Rattle.pit_step.specs.Devices.{Reading, Writing}
use Rattle.pit_step.specs.declared.status.Status.{Status}
use Rattle.pit_step.specs.declared.fault.CliFault.{CliFault}
use Rattle.pit_step.specs.declared.fault.CliFault.TheVariants.{NoMemory}
use Rattle.pit_step.specs.Steps.{in_turn, through, IsResultOf}
use Rattle.pit_output.specs.Outputs.{Keeping, outputs_run, IsUnwritten}
use Rattle.pit_merge.specs.declared.options.MergeOptions.{MergeOptions}
use Rattle.pit_merge.specs.Prepared.{Prepared}
use Rattle.pit_merge.specs.Edits.{Merged, edit_step}
use Rattle.pit_merge.specs.Merge.{desk_step, merge_outputs, merge_status, merge_run}

module _ (options : MergeOptions) (begun : Prepared) (edits : List Reading) (out lines : Writing) (kept : Option Keeping) where
  module _ (merged : Merged) (is_kept : IsDeskKept merged.merging.desk) (taken : (in_turn (desk_step begun) (through (edit_step options) 1 edits)).Gives tt merged) where
    -- where memory doesn't run out
    pub merged_as : (result : Result Status CliFault)
        → IsResultOf (outputs_run begun.is_carried_on (merge_outputs begun.is_new merged) (Ok (merge_status merged.merging.is_whole)) out lines kept) tt result
        → IsResultOf (merge_run options begun edits out lines kept) tt result
    merged_as result written = by result taken written
      where
        by : (r : Result Status CliFault) → (in_turn (desk_step begun) (through (edit_step options) 1 edits)).Gives tt merged
            → IsResultOf (outputs_run begun.is_carried_on (merge_outputs begun.is_new merged) (Ok (merge_status merged.merging.is_whole)) out lines kept) tt r
            → IsResultOf (merge_run options begun edits out lines kept) tt r
        by (Ok status) (start, opened, rest) p = (start, opened, (merged, rest, (merged, (refl, is_kept), (tt, (refl, tt), p))))
        by (Err fault) (start, opened, rest) p = inr (start, opened, inr (merged, rest, inr (merged, (refl, is_kept), inr (tt, (refl, tt), p))))

    -- where it is
    pub merged_wants : (outputs_run begun.is_carried_on (merge_outputs begun.is_new merged) (Ok (merge_status merged.merging.is_whole)) out lines kept).IsUntouched
        → (merge_run options begun edits out lines kept).Fails tt NoMemory
    merged_wants left = by taken
      where
        by : (in_turn (desk_step begun) (through (edit_step options) 1 edits)).Gives tt merged → (merge_run options begun edits out lines kept).Fails tt NoMemory
        by (start, opened, rest) = inr (start, opened, inr (merged, rest, inr (merged, (refl, is_kept), inl (refl, left))))

  -- where nothing was merged
  pub never_merged : (fault : CliFault) → (in_turn (desk_step begun) (through (edit_step options) 1 edits)).Fails tt fault → IsUnwritten out lines kept
      → (merge_run options begun edits out lines kept).Fails tt fault
  never_merged fault (inl (p, left)) unwritten = inl (p, (left, (tt, unwritten)))
  never_merged fault (inr (start, opened, p)) unwritten = inr (start, opened, inl (p, (tt, unwritten)))
