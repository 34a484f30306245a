-- What is known of an answer to an edit.
use Rattle.std.specs.Prelude.{◌≡◌, ℕ, ◌+◌, List, [], ◌∷◌, ◌++◌, length, Some}
use Rattle.pit_model.specs.Pit.{Pit}
use Rattle.pit_desk.specs.History.{Call, Answered, commits_of}
use Rattle.pit_desk.specs.Replies.{IsReply}
use Rattle.pit_desk.specs.declared.reply.EntryReply.{EntryReply}
use Rattle.pit_log.specs.Causes.{cause_of}
use Rattle.pit_log.specs.Makers.{AreMakers}
use Rattle.pit_edit.specs.declared.answer.Answer.{Answer}
use Rattle.pit_edit.specs.Changes.{Edit}
use Rattle.pit_edit.specs.Calls.{IsEntered}
use Rattle.pit_edit.specs.EditText.{entry_number, edit_cause}

-- the entries end with this one, which was answered so, and these are the makers of the commits before it
pub record IsLast (history : List Answered) (makers : List ℕ) (reply : EntryReply) : Type 0 where
  pub before : List Answered
  pub entry : Answered
  pub cut : history ≡ before ++ entry ∷ []
  pub reply_is : entry.reply ≡ reply
  pub made : AreMakers before makers

-- what an entry behind others says
abbrev pub answer_by : List Answered → Answered → Answer
answer_by before e = record { entry = Some (length before + 1); reply = Some e.reply; cause = cause_of before e }

-- the call made an entry, with the reply that is due, and that is the answer
pub record IsAnswerTo (pit : Pit) (before : List Answered) (call : Call) (after : List Answered) (answer : Answer) : Type 0 where
  pub due : EntryReply
  pub is_due : IsReply pit (commits_of before) call due
  pub after_is : after ≡ before ++ record { call = call; reply = due } ∷ []
  pub answer_is : answer ≡ answer_by before (record { call = call; reply = due })

-- the call of an edit that writes these blocks was answered so, if there was one
pub record IsAnswerOf (pit : Pit) (before : List Answered) (edit : Edit) (blocks : List ℕ) (after : List Answered) (answer : Answer) : Type 0 where
  pub entered : IsEntered pit before edit blocks after answer.reply
  pub entry_is : answer.entry ≡ entry_number before answer.reply
  pub cause_is : answer.cause ≡ edit_cause before edit blocks answer.reply
