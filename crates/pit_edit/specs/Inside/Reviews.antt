-- What is known of an edit before its call, and behind it.
use Rattle.std.specs.Prelude.{◌≡◌, ℕ, ◌==◌, ◌&&◌, Bool, List, ◌++◌, length, Option}
use Rattle.pit_plan.specs.Standing.{Standing, period_of, version_of}
use Rattle.pit_log.specs.Makers.{maker_of}
use Rattle.pit_edit.specs.declared.answer.Answer.{Answer}
use Rattle.pit_edit.specs.Changes.{Edit, changes_of, late_of, kept_of, left_of}
use Rattle.pit_edit.specs.EditText.{conflicts_text, edit_line}
use Rattle.pit_edit.specs.Merging.{Merging, was_granted}
use Rattle.pit_edit.specs.Inside.Answers.{IsAnswerOf}

-- the entry that last wrote a block, by the makers of a plan's commits
abbrev pub writer_in : Standing → List ℕ → ℕ → Option ℕ
writer_in plan makers b = maker_of makers (version_of plan b)

-- what an edit changes on a plan
abbrev pub changes_on : Standing → Edit → List ℕ
changes_on plan edit = changes_of plan.pit.blocks edit (period_of plan)

-- the blocks that are written, how many it changes, how many of them are left out, and the lines of those that are late
pub record IsReview (is_partial : Bool) (edit : Edit) (plan : Standing) (makers kept : List ℕ) (changes left : ℕ) (conflicts : List ℕ) : Type 0 where
  pub kept_are : kept ≡ kept_of is_partial edit.start (version_of plan) (changes_on plan edit)
  pub changes_are : changes ≡ length (changes_on plan edit)
  pub left_are : left ≡ length (left_of is_partial edit.start (version_of plan) (changes_on plan edit))
  pub conflicts_are : conflicts ≡ conflicts_text edit (period_of plan) (writer_in plan makers) (late_of edit.start (version_of plan) (changes_on plan edit))

-- the call for the blocks that are written is answered, and reported by these numbers and lines
pub record IsReported (edit : Edit) (kept : List ℕ) (changes left : ℕ) (conflicts : List ℕ) (old new : Merging) : Type 0 where
  pub answer : Answer
  pub is_answer : IsAnswerOf old.desk.plan.pit old.desk.history edit kept new.desk.history answer
  pub same_pit : new.desk.plan.pit ≡ old.desk.plan.pit
  pub same_limit : new.desk.max_entries ≡ old.desk.max_entries
  pub lines : new.lines ≡ old.lines ++ (edit_line edit.number answer.entry changes left answer.cause answer.reply ++ conflicts)
  pub whole : new.is_whole ≡ (old.is_whole && (was_granted answer.reply && left == 0))
