-- A merge that begins on a desk, and that goes on.
use Rattle.std.specs.Prelude.{◌≡◌, Bool, true, []}
use Rattle.pit_desk.specs.State.{State}
use Rattle.pit_edit.specs.Changes.{Edit}
use Rattle.pit_edit.specs.Merging.{IsMerged}
use Rattle.pit_merge.specs.Edits.{Merged}

pub record IsBegunOn (desk : State) (is_resumed : Bool) (merged : Merged) : Type 0 where
  pub ours : merged.ours ≡ desk.history
  pub resumed_is : merged.is_resumed ≡ is_resumed
  pub desk_is : merged.merging.desk ≡ desk
  pub lines : merged.merging.lines ≡ []
  pub whole : merged.merging.is_whole ≡ true

-- an edit is merged, and what the merge began with stays
pub record IsMergedOn (is_partial : Bool) (edit : Edit) (old new : Merged) : Type 0 where
  pub merged : IsMerged is_partial edit old.merging new.merging
  pub ours : new.ours ≡ old.ours
  pub resumed_is : new.is_resumed ≡ old.is_resumed
