-- Where a merge stands, and what an edit does to it.
use Rattle.std.specs.Prelude.{◌≡◌, ℕ, ◌==◌, ◌&&◌, Bool, true, false, List, ◌++◌, length, Option, Some, None}
use Rattle.pit_plan.specs.Schedule.{held_period, last_number}
use Rattle.pit_desk.specs.History.{commits_of}
use Rattle.pit_desk.specs.State.{State}
use Rattle.pit_desk.specs.declared.reply.EntryReply.{EntryReply}
use Rattle.pit_desk.specs.declared.reply.EntryReply.TheVariants.{Committed, Refused, Withdrawn}
use Rattle.pit_edit.specs.Changes.{Edit, changes_of, kept_of, left_of}
use Rattle.pit_edit.specs.Calls.{IsEntered}
use Rattle.pit_edit.specs.EditText.{edit_text}

-- the desk, the lines that tell of the edits so far, and whether each of these was merged whole
pub record Merging : Type 0 where
  pub desk : State
  pub lines : List ℕ
  pub is_whole : Bool

-- an edit was not refused
abbrev pub was_granted : Option EntryReply → Bool
was_granted None = true
was_granted (Some (Committed number)) = true
was_granted (Some (Refused why)) = false
was_granted (Some Withdrawn) = true

-- its call is answered, and reported; the desk has one entry more at most
pub record IsMerged (is_partial : Bool) (edit : Edit) (old new : Merging) : Type 0 where
  pub changes : List ℕ
  pub changes_are : changes ≡ changes_of old.desk.plan.pit.blocks edit (held_period (commits_of old.desk.history))
  pub kept : List ℕ
  pub kept_are : kept ≡ kept_of is_partial edit.start (last_number (commits_of old.desk.history)) changes
  pub left : List ℕ
  pub left_are : left ≡ left_of is_partial edit.start (last_number (commits_of old.desk.history)) changes
  pub reply : Option EntryReply
  pub entered : IsEntered old.desk.plan.pit old.desk.history edit kept new.desk.history reply
  pub same_pit : new.desk.plan.pit ≡ old.desk.plan.pit
  pub same_limit : new.desk.max_entries ≡ old.desk.max_entries
  pub reported : new.lines ≡ old.lines ++ edit_text is_partial old.desk.history edit changes kept reply
  pub whole : new.is_whole ≡ (old.is_whole && (was_granted reply && length left == 0))
