-- The line that each answer is told by.
use Rattle.std.specs.Prelude.{ℕ, List, [], ◌∷◌, ◌++◌, codes}
use Rattle.pit_journal.specs.EndingText.{ending_line}
use Rattle.pit_num.specs.declared.parse.NumError.{NumError}
use Rattle.pit_num.specs.declared.parse.NumError.TheVariants.{Malformed, TooLong, TooLarge}
use Rattle.pit_script.specs.declared.error.ScriptFault.{ScriptFault}
use Rattle.pit_script.specs.declared.error.ScriptFault.TheVariants as cause
use Rattle.pit_step.specs.LineTexts.{field_text, period_text, value_text}
use Rattle.pit_serve.specs.declared.answer.Answer.{Answer}
use Rattle.pit_serve.specs.declared.answer.Answer.TheVariants as told
use Rattle.pit_serve.specs.declared.fault.RequestFault.{RequestFault}
use Rattle.pit_serve.specs.declared.fault.RequestFault.TheVariants as fault

abbrev pub number_words : NumError → List ℕ
number_words Malformed = codes "bad number"
number_words TooLong = codes "number too long"
number_words TooLarge = codes "number too large"

-- the words of what is wrong with a line of a script
unfoldable pub cause_words : ScriptFault → List ℕ
cause_words cause.NotAscii = codes "not ascii"
cause_words cause.UnknownWord = codes "unknown word"
cause_words cause.FieldCount = codes "field count"
cause_words (cause.BadNumber error) = number_words error
cause_words cause.BlockRange = codes "block out of range"
cause_words cause.ResourceRange = codes "resource out of range"
cause_words cause.PeriodRange = codes "period out of range"
cause_words cause.Order = codes "job order"
cause_words cause.NoBench = codes "no such bench"
cause_words cause.JobCount = codes "too many jobs"
cause_words cause.Unended = codes "job not ended"

unfoldable pub fault_words : RequestFault → List ℕ
fault_words (fault.Line wrong) = cause_words wrong
fault_words fault.LineTooLong = codes "line too long"
fault_words fault.Journal = codes "journal"
fault_words fault.NoMemory = codes "no memory"

unfoldable pub answer_text : Answer → List ℕ
answer_text (told.Begun job start) = codes "begun " ++ (field_text job 32 ++ field_text start 10)
answer_text (told.Held block period) = codes "held " ++ (field_text block 32 ++ period_text period (10 ∷ []))
answer_text (told.Moved block version) = codes "moved " ++ (field_text block 32 ++ field_text version 10)
answer_text told.Busy = codes "busy\n"
answer_text told.Done = codes "ok\n"
answer_text (told.Ended reply is_saved) = ending_line is_saved reply
answer_text told.Full = codes "full\n"
answer_text told.Abandoned = codes "abandoned\n"
answer_text (told.Value commits value) = codes "value " ++ (field_text commits 32 ++ value_text value)
answer_text (told.Wrong wrong) = codes "fault " ++ (fault_words wrong ++ 10 ∷ [])
