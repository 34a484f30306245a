-- What an answered ending gives a planner, and what one that got no answer does.
use Rattle.std.specs.Prelude.{◌≡◌, ◌≢◌, ℕ, ◌<◌, ◌≤◌, List, [], ◌∷◌, ◌++◌, length}
use mathlib.Core.List.{IsPrefix}
use Rattle.pit_model.specs.Pit.{Pit}
use Rattle.pit_desk.specs.History.{Answered, Call, commits_of}
use Rattle.pit_desk.specs.Replies.{IsReply}
use Rattle.pit_desk.specs.declared.error.Stop.{Stop}
use Rattle.pit_desk.specs.declared.error.Stop.TheVariants as stop
use Rattle.pit_desk.specs.declared.reply.EntryReply.{EntryReply}
use Rattle.pit_desk.specs.declared.reply.EntryReply.TheVariants.{Refused}
use Rattle.pit_desk.specs.declared.reply.Refusal.TheVariants.{Misread, Ahead}
use Rattle.pit_share.specs.Planners.{PlannerState, TransactionState, SeesOn}

-- The reply is the one that is due after some entries. These, and then the call with this reply, are a prefix of what the planner has seen
-- afterwards: so its own entry is the last of a prefix of the history. No read is ever found to be wrong, and the start is found to be ahead only where
-- the planner had seen more commits.
pub record IsAnswered (pit : Pit) (call : Call) (reply : EntryReply) (old seen : List Answered) : Type 0 where
  pub before : List Answered
  pub due : IsReply pit (commits_of before) call reply
  pub stands : IsPrefix (before ++ record { call = call; reply = reply } ∷ []) seen
  pub never_misread : (block : ℕ) → reply ≢ Refused (Misread block)
  pub ahead : (start count : ℕ) → reply ≡ Refused (Ahead start count) → length (commits_of before) < length (commits_of old)

-- the planner's log has one item more, which is the whole entry
pub record IsEnded (pit : Pit) (old : PlannerState) (call : Call) (reply : EntryReply) (new : PlannerState) : Type 0 where
  pub number : new.number ≡ old.number
  pub items : new.items ≡ old.items ++ record { call = call; reply = reply } ∷ []
  pub seen : IsPrefix old.seen new.seen
  pub answer : IsAnswered pit call reply old.seen new.seen

-- why an ending got no answer: the planner has seen a full history; or memory ran out, and nothing changed
abbrev pub IsStopped : ℕ → TransactionState → Stop → TransactionState → Type 0
IsStopped max_entries old stop.Full new = (new.work ≡ old.work) × SeesOn old.planner new.planner × (max_entries ≤ length new.planner.seen)
IsStopped max_entries old stop.NoMemory new = new ≡ old
