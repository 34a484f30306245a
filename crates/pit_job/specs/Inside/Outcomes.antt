-- What a try comes to.
use Rattle.std.specs.Prelude.{◌≡◌, ℕ, ◌≤◌, false, List, [], ◌∷◌, length, Option, Contains, ⊤}
use Rattle.pit_model.specs.Pit.{Pit}
use Rattle.pit_tx.specs.Sets.{Sets}
use Rattle.pit_desk.specs.History.{Answered, commits_of}
use Rattle.pit_desk.specs.Calls.{work_call}
use Rattle.pit_desk.specs.declared.entry.Act.{Act}
use Rattle.pit_desk.specs.declared.error.Stop.{Stop}
use Rattle.pit_desk.specs.declared.error.Stop.TheVariants as desk_stop
use Rattle.pit_desk.specs.declared.reply.Refusal.{Refusal}
use Rattle.pit_desk.specs.declared.reply.Refusal.TheVariants as refusal
use Rattle.pit_desk.specs.declared.reply.Reply.{Reply}
use Rattle.pit_desk.specs.declared.reply.Reply.TheVariants as answered
use Rattle.pit_desk.specs.declared.reply.EntryReply.{EntryReply}
use Rattle.pit_desk.specs.declared.reply.EntryReply.TheVariants as reply
use Rattle.pit_script.specs.Jobs.{Job}
use Rattle.pit_script.specs.declared.step.Step.{Step}
use Rattle.pit_job.specs.declared.doing.StepStop.{StepStop}
use Rattle.pit_job.specs.declared.doing.StepStop.TheVariants as met
use Rattle.pit_job.specs.declared.outcome.JobStop.{JobStop}
use Rattle.pit_job.specs.declared.outcome.JobStop.TheVariants as stop
use Rattle.pit_job.specs.declared.outcome.Tried.{Tried}
use Rattle.pit_job.specs.declared.outcome.Tried.TheVariants as tried
use Rattle.pit_job.specs.declared.outcome.Outcome.{Outcome}
use Rattle.pit_job.specs.declared.outcome.Outcome.TheVariants as outcome
use Rattle.pit_job.specs.Outcomes.{is_moved_reply, IsItem, StandsIn, IsMovedBlock, IsMovedTry, IsRead}
use Rattle.pit_job.specs.Inside.Doing.{SeesUnmoved}

abbrev pub outcome_of : EntryReply → ℕ → Outcome
outcome_of (reply.Committed number) tries = outcome.Committed number tries
outcome_of (reply.Refused why) tries = outcome.Refused why tries
outcome_of reply.Withdrawn tries = outcome.Withdrawn tries

-- what a stop of the desk is to a job
abbrev pub stop_of : Stop → JobStop
stop_of desk_stop.Full = stop.Full
stop_of desk_stop.NoMemory = stop.NoMemory

-- what a stop of the steps makes of a try
abbrev pub tried_at : StepStop → Tried
tried_at (met.Moved block version) = tried.Moved block version
tried_at met.NoMemory = tried.Stopped stop.NoMemory
tried_at met.NoEntry = tried.Stopped stop.NoEntry

-- A try of these steps stopped. Where that is since the history is full, its planner has seen so many entries; where there was no entry at the board,
-- a step may read a block.
abbrev pub IsStop : Pit → ℕ → List Step → List Answered → JobStop → Type 0
IsStop pit max_entries steps seen stop.Full = max_entries ≤ length seen
IsStop pit max_entries steps seen stop.NoMemory = ⊤
IsStop pit max_entries steps seen stop.NoEntry = (block : ℕ) × IsRead pit steps block

-- A try of these steps, which began after so many commits, got no reply, and not since the history is full: its planner has seen nothing more since, or
-- it last looked at a block that a step may read, and that had not moved.
abbrev pub EndsUnmoved : Pit → List Step → ℕ → List Answered → List Answered → Tried → Type 0
EndsUnmoved pit steps start old new (tried.Moved block version) = ⊤
EndsUnmoved pit steps start old new (tried.Answered answer) = ⊤
EndsUnmoved pit steps start old new (tried.Stopped stop.Full) = ⊤
EndsUnmoved pit steps start old new (tried.Stopped stop.NoMemory) = SeesUnmoved (IsRead pit steps) start old new
EndsUnmoved pit steps start old new (tried.Stopped stop.NoEntry) = SeesUnmoved (IsRead pit steps) start old new

-- what one try adds to the log
abbrev pub Tries : Pit → ℕ → Job → ℕ → List Answered → List Answered → List Answered → Tried → Type 0
Tries pit max_entries task n old new es (tried.Moved block version) = IsMovedTry pit task n old new es block version
Tries pit max_entries task n old new es (tried.Answered answer) =
    (e : Answered) × (es ≡ e ∷ []) × IsItem pit task n e × (e.reply ≡ answer) × (is_moved_reply answer ≡ false)
    × (length (commits_of old) ≤ e.call.start) × (e.call.start ≤ length (commits_of new)) × StandsIn new e
Tries pit max_entries task n old new es (tried.Stopped why) = (es ≡ []) × IsStop pit max_entries task.steps new why

-- what the ending of a transaction with this work adds to the log
abbrev pub EndsBy : Pit → ℕ → Act → Sets → List Answered → List Answered → Tried → Type 0
EndsBy pit max_entries ending work seen es (tried.Moved block version) =
    (es ≡ record { call = work_call work ending; reply = reply.Refused (refusal.Moved block version) } ∷ []) × IsMovedBlock seen work.start block version
    × ((read : ℕ × Option ℕ) × Contains work.reads read × (read.0 ≡ block))
EndsBy pit max_entries ending work seen es (tried.Answered answer) =
    (es ≡ record { call = work_call work ending; reply = answer } ∷ []) × (is_moved_reply answer ≡ false)
    × StandsIn seen (record { call = work_call work ending; reply = answer })
EndsBy pit max_entries ending work seen es (tried.Stopped why) = (es ≡ []) × IsStop pit max_entries [] seen why

abbrev pub tried_refused : Refusal → Tried
tried_refused (refusal.Ahead start commits) = tried.Answered (reply.Refused (refusal.Ahead start commits))
tried_refused (refusal.Moved block version) = tried.Moved block version
tried_refused (refusal.Misread block) = tried.Answered (reply.Refused (refusal.Misread block))
tried_refused (refusal.Precedence block before) = tried.Answered (reply.Refused (refusal.Precedence block before))
tried_refused (refusal.Over resource period load limit) = tried.Answered (reply.Refused (refusal.Over resource period load limit))

-- what a commit's reply makes of a try
abbrev pub tried_of : Reply → Tried
tried_of (answered.Committed number) = tried.Answered (reply.Committed number)
tried_of (answered.Refused why) = tried_refused why
