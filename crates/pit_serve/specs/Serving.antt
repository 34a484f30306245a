-- What is answered to a request, and what it leaves.
use Rattle.std.specs.Prelude.{◌≡◌, ℕ, ◌+◌, ◌-◌, ◌^◌, ◌<◌, nat_eq, List, Option, Some, None, is_some, IfSome, ◌⊎◌, ⊤, Ok, Err}
use Rattle.pit_model.specs.Pit.{Pit}
use Rattle.pit_keyed.specs.Keyed.{IsFurther, with_write}
use Rattle.pit_tx.specs.Sets.{known_of}
use Rattle.pit_desk.specs.History.{Answered}
use Rattle.pit_desk.specs.Calls.{work_call}
use Rattle.pit_desk.specs.declared.entry.Act.TheVariants.{Commit as commit_act}
use Rattle.pit_desk.specs.declared.error.Stop.TheVariants as stop
use Rattle.pit_journal.specs.Journals.{IsSaved}
use Rattle.pit_journal.specs.Room.{IsUnmade}
use Rattle.pit_script.specs.declared.error.ScriptFault.TheVariants.{Order, JobCount}
use Rattle.pit_share.specs.Endings.{IsEnded}
use Rattle.pit_share.specs.Locked.{IsLockedValue}
use Rattle.pit_share.specs.Planners.{PlannerState, TransactionState, SeesOn, Begins}
use Rattle.pit_share.specs.Reads.{IsLookedUp}
use Rattle.pit_share.specs.declared.error.ReadStop.TheVariants as read_stop
use Rattle.pit_serve.specs.Phases.{PhaseState}
use Rattle.pit_serve.specs.Phases.PhaseState.{Idle, Open}
use Rattle.pit_serve.specs.declared.answer.Answer.{Answer}
use Rattle.pit_serve.specs.declared.answer.Answer.TheVariants as told
use Rattle.pit_serve.specs.declared.fault.RequestFault.TheVariants as fault
use Rattle.pit_serve.specs.declared.request.Request.{Request}
use Rattle.pit_serve.specs.declared.request.Request.TheVariants as ask

-- ---- begin, by how many `begun` were answered before

-- one more is counted
abbrev pub IsCounted : ℕ → Type 0
IsCounted begun = begun < 2 ^ 32 - 1

-- The number is the next one, and the start is the transaction's. Whether one more is counted is looked at before all else; where memory runs out,
-- the planner may have seen more.
abbrev pub BeginsBy : Pit → PlannerState → ℕ → Answer → PhaseState → Type 0
BeginsBy pit old begun (told.Begun job start) (Open new) = IsCounted begun × (job ≡ begun + 1) × (start ≡ new.work.start) × Begins pit old job new
BeginsBy pit old begun (told.Wrong (fault.Line JobCount)) (Idle new) = (begun ≡ 2 ^ 32 - 1) × (new ≡ old)
BeginsBy pit old begun (told.Wrong fault.Journal) (Idle new) = IsCounted begun × (new ≡ old)
BeginsBy pit old begun (told.Wrong fault.NoMemory) (Idle new) = IsCounted begun × SeesOn old new
BeginsBy pit old begun answer new = ⊥

-- ---- requests inside a transaction

-- what the transaction knows of a block; else what the board says of it, which is noted where the block hasn't moved
abbrev pub Reads : TransactionState → ℕ → Answer → TransactionState → Type 0
Reads old b (told.Held block period) new = (block ≡ b) × SeesOn old.planner new.planner
    × (((known_of old.work b ≡ Some period) × (new ≡ old)) ⊎ ((known_of old.work b ≡ None) × IsLookedUp old b (Ok period) new))
Reads old b (told.Moved block version) new =
    SeesOn old.planner new.planner × (known_of old.work b ≡ None) × IsLookedUp old b (Err (read_stop.Moved block version)) new
Reads old b told.Busy new = (known_of old.work b ≡ None) × (new ≡ old)
Reads old b (told.Wrong fault.NoMemory) new = SeesOn old.planner new.planner × (known_of old.work b ≡ None) × IsLookedUp old b (Err read_stop.NoMemory) new
Reads old b answer new = ⊥

-- a block gets a period, or none; memory is wanted for a further block alone
abbrev pub Writes : TransactionState → ℕ → Option ℕ → Answer → TransactionState → Type 0
Writes old b period told.Done new = (new.planner ≡ old.planner) × (new.work ≡ record old.work { writes = with_write nat_eq old.work.writes b period })
Writes old b period (told.Wrong fault.NoMemory) new = (new ≡ old) × IsFurther nat_eq old.work.writes b
Writes old b period answer new = ⊥

abbrev pub StopsAt : ℕ → TransactionState → Answer → TransactionState → Type 0
StopsAt max_entries old told.Full new = IsUnmade max_entries old stop.Full new
StopsAt max_entries old (told.Wrong fault.NoMemory) new = IsUnmade max_entries old stop.NoMemory new
StopsAt max_entries old answer new = ⊥

abbrev pub EndsBy : Pit → TransactionState → Answer → PlannerState → Type 0
EndsBy pit old (told.Ended reply is_saved) new = IsEnded pit old.planner (work_call old.work commit_act) reply new
EndsBy pit old answer new = ⊥

abbrev pub Commits : Pit → ℕ → TransactionState → Answer → PhaseState → Type 0
Commits pit max_entries old answer (Idle new) = EndsBy pit old answer new
Commits pit max_entries old answer (Open new) = StopsAt max_entries old answer new

-- ---- the value

-- of a schedule that goes on from what was seen
abbrev pub Values : Pit → List Answered → Answer → Type 0
Values pit seen (told.Value commits value) = IsLockedValue pit seen commits value
Values pit seen answer = ⊥

-- ---- any request

-- it is refused for this, and nothing changes
abbrev pub Refuses : PhaseState → Answer → Answer → PhaseState → Type 0
Refuses old due answer new = (answer ≡ due) × (new ≡ old)

-- a transaction stays open by this
abbrev pub StaysOpen : (TransactionState → Type 0) → PhaseState → Type 0
StaysOpen Holds (Idle new) = ⊥
StaysOpen Holds (Open new) = Holds new

abbrev pub FromIdle : Pit → PlannerState → ℕ → Request → Answer → PhaseState → Type 0
FromIdle pit old begun ask.Begin answer new = BeginsBy pit old begun answer new
FromIdle pit old begun ask.Value answer new = Values pit old.seen answer × (new ≡ Idle old)
FromIdle pit old begun request answer new = Refuses (Idle old) (told.Wrong (fault.Line Order)) answer new

abbrev pub FromOpen : Pit → ℕ → TransactionState → Request → Answer → PhaseState → Type 0
FromOpen pit max_entries old ask.Begin answer new = Refuses (Open old) (told.Wrong (fault.Line Order)) answer new
FromOpen pit max_entries old (ask.Read block) answer new = StaysOpen (Reads old block answer) new
FromOpen pit max_entries old (ask.Put block period) answer new = StaysOpen (Writes old block (Some period) answer) new
FromOpen pit max_entries old (ask.Clear block) answer new = StaysOpen (Writes old block None answer) new
FromOpen pit max_entries old ask.Commit answer new = Commits pit max_entries old answer new
FromOpen pit max_entries old ask.Abandon answer new = (answer ≡ told.Abandoned) × (new ≡ Idle old.planner)
FromOpen pit max_entries old ask.Value answer new = Values pit old.planner.seen answer × (new ≡ Open old)

-- one request, by what there was before it and the number of `begun` so far
abbrev pub Serves : Pit → ℕ → PhaseState → ℕ → Request → Answer → PhaseState → Type 0
Serves pit max_entries (Idle old) begun request answer new = FromIdle pit old begun request answer new
Serves pit max_entries (Open old) begun request answer new = FromOpen pit max_entries old request answer new

-- ---- what shows that an ending is saved

abbrev pub IsPlain : Answer → Type 0
IsPlain (told.Ended reply is_saved) = ⊥
IsPlain answer = ⊤

-- an ending that is saved has a durable history in which its own entry stands, answered so
abbrev pub IsShown : PhaseState → Answer → Option (List Answered) → Type 0
IsShown (Idle planner) (told.Ended reply is_saved) durable = (is_saved ≡ is_some durable) × IfSome durable (IsSaved planner reply)
IsShown (Open transaction) (told.Ended reply is_saved) durable = ⊥
IsShown phase answer durable = ⊤
