-- What is reported of an edit.
use Rattle.std.specs.Prelude.{ℕ, ◌+◌, ◌-◌, ◌||◌, nat_le, Bool, true, false, List, [], ◌∷◌, ◌++◌, length, take, flat_map, Option, Some, None, codes, if◌then◌else◌}
use Rattle.pit_plan.specs.Schedule.{held_period, last_number}
use Rattle.pit_desk.specs.History.{Answered, commits_of}
use Rattle.pit_desk.specs.declared.reply.Refusal.{Refusal}
use Rattle.pit_desk.specs.declared.reply.Refusal.TheVariants.{Ahead, Moved, Misread, Precedence, Over}
use Rattle.pit_desk.specs.declared.reply.EntryReply.{EntryReply}
use Rattle.pit_desk.specs.declared.reply.EntryReply.TheVariants.{Committed, Refused, Withdrawn}
use Rattle.pit_step.specs.LineTexts.{field_text, period_text}
use Rattle.pit_step.specs.RefusalText.{numbered_text, reply_words}
use Rattle.pit_log.specs.Causes.{last_writer, cause_of}
use Rattle.pit_edit.specs.declared.conflicts.TheConstants.{CONFLICTS_SHOWN}
use Rattle.pit_edit.specs.Changes.{Edit, base_of, wanted_of, late_of, left_of}
use Rattle.pit_edit.specs.Calls.{edit_entry}

-- ---- the line of an edit

-- the number of its entry, and the cause of its refusal, if there is one
abbrev pub entry_number : List Answered → Option EntryReply → Option ℕ
entry_number before None = None
entry_number before (Some reply) = Some (length before + 1)

abbrev pub edit_cause : List Answered → Edit → List ℕ → Option EntryReply → Option ℕ
edit_cause before edit blocks None = None
edit_cause before edit blocks (Some reply) = cause_of before (edit_entry edit blocks reply)

abbrev pub answer_words : Option EntryReply → List ℕ
answer_words None = codes "nothing"
answer_words (Some reply) = reply_words reply

-- ` cause C REPLY`, and a line feed
unfoldable pub answer_text : Option ℕ → Option EntryReply → List ℕ
answer_text cause reply = codes " cause " ++ (period_text cause (32 ∷ []) ++ (answer_words reply ++ codes "\n"))

-- `edit K entry E changes N left N`, and that
unfoldable pub edit_line : ℕ → Option ℕ → ℕ → ℕ → Option ℕ → Option EntryReply → List ℕ
edit_line number entry changes left cause reply =
    numbered_text (codes "edit ") number ++ (codes " entry " ++ (period_text entry []
    ++ (numbered_text (codes " changes ") changes ++ (numbered_text (codes " left ") left ++ answer_text cause reply))))

-- ---- conflicts

-- `conflict K B base P now P entry E wanted P`: what the block had in the base, what is held, the entry that gave it that, and what the edit wants
unfoldable pub conflict_line : Edit → ℕ → Option ℕ → Option ℕ → List ℕ
conflict_line edit b held entry =
    numbered_text (codes "conflict ") edit.number ++ (numbered_text (codes " ") b ++ (codes " base " ++ (period_text (base_of edit b) (codes " now ")
    ++ (period_text held (codes " entry ") ++ (period_text entry (codes " wanted ") ++ period_text (wanted_of edit b) (10 ∷ []))))))

-- of a block, where so much is held, and these entries are the last that wrote each block
abbrev pub conflict_at : Edit → (ℕ → Option ℕ) → (ℕ → Option ℕ) → ℕ → List ℕ
conflict_at edit held writer b = conflict_line edit b (held b) (writer b)

abbrev pub conflict_lines : Edit → (ℕ → Option ℕ) → (ℕ → Option ℕ) → List ℕ → List ℕ
conflict_lines edit held writer blocks = flat_map (conflict_at edit held writer) blocks

-- `more N`, of so many, where some are not shown
abbrev pub more_text : ℕ → List ℕ
more_text count = if nat_le count CONFLICTS_SHOWN then [] else codes "more " ++ field_text (count - CONFLICTS_SHOWN) 10

-- the first of these blocks, and how many more there are
abbrev pub conflicts_text : Edit → (ℕ → Option ℕ) → (ℕ → Option ℕ) → List ℕ → List ℕ
conflicts_text edit held writer blocks = conflict_lines edit held writer (take CONFLICTS_SHOWN blocks) ++ more_text (length blocks)

-- ---- which are reported

-- the edit was refused since a block that it writes was written behind its base
abbrev pub was_moved_by : Refusal → Bool
was_moved_by (Ahead start commits) = false
was_moved_by (Moved block version) = true
was_moved_by (Misread block) = false
was_moved_by (Precedence block before) = false
was_moved_by (Over resource period load limit) = false

abbrev pub was_moved : Option EntryReply → Bool
was_moved None = false
was_moved (Some (Committed number)) = false
was_moved (Some (Refused why)) = was_moved_by why
was_moved (Some Withdrawn) = false

-- those of the late changes that are reported: all where they were left out, or where the edit was refused so
abbrev pub reported_of : Bool → Option EntryReply → List ℕ → List ℕ
reported_of is_partial reply late = if is_partial || was_moved reply then late else []

-- ---- the text

-- of an edit whose changes, and those of them that are written, are these
abbrev pub edit_text : Bool → List Answered → Edit → List ℕ → List ℕ → Option EntryReply → List ℕ
edit_text is_partial before edit changes kept reply =
    edit_line edit.number (entry_number before reply) (length changes) (length (left_of is_partial edit.start (last_number (commits_of before)) changes))
    (edit_cause before edit kept reply) reply
    ++ conflicts_text edit (held_period (commits_of before)) (last_writer before) (reported_of is_partial reply (late_of edit.start (last_number (commits_of before)) changes))
