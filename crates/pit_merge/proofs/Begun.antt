-- A merge that begins on a desk.
use Rattle.std.proofs.Common.{◌≡◌, inr, Bool, sym, subst, ◌∙◌}
use Rattle.pit_desk.specs.State.{State}
use Rattle.pit_opening.specs.Openings.{IsDeskOn, is_resumed}
use Rattle.pit_step.specs.declared.fault.CliFault.{CliFault}
use Rattle.pit_step.specs.declared.fault.CliFault.TheVariants.{NoMemory}
use Rattle.pit_merge.specs.Prepared.{Prepared}
use Rattle.pit_merge.specs.Edits.{Merged}
use Rattle.pit_merge.specs.Merge.{IsBegun, IsNoDesk}
use Rattle.pit_merge.specs.Inside.Begun.{IsBegunOn}

-- a merge on the desk that was opened has begun
pub begun-opened : (begun : Prepared) (desk : State) (is : Bool) → is ≡ is_resumed begun.opening → IsDeskOn begun.pit begun.opening desk → (merged : Merged) → IsBegunOn desk is merged → IsBegun begun merged
begun-opened begun desk is resumed opened merged on = record {
  ours = on.ours ∙ opened.history;
  resumed_is = on.resumed_is ∙ resumed;
  opened = subst (IsDeskOn begun.pit begun.opening) (sym on.desk_is) opened;
  lines = on.lines;
  whole = on.whole;
}

-- or memory ran out behind it
pub no-desk-opened : (begun : Prepared) (desk : State) → IsDeskOn begun.pit begun.opening desk → (fault : CliFault) → fault ≡ NoMemory → IsNoDesk begun fault
no-desk-opened begun desk opened fault none = inr (opened.is_good, none)
