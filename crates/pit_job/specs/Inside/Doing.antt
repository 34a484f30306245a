-- What a step of a job does to a transaction.
use Rattle.std.specs.Prelude.{◌≡◌, ◌⊎◌, ℕ, ◌≤◌, Bool, true, false, List, [], ◌++◌, length, Option, Some, Result, Ok, Err, ⊤, All}
use Rattle.pit_model.specs.Pit.{Pit}
use Rattle.pit_plan.specs.Schedule.{Commit, last_number}
use Rattle.pit_tx.specs.Sets.{Sets, known_of}
use Rattle.pit_desk.specs.History.{Answered, commits_of}
use Rattle.pit_script.specs.declared.step.Step.{Step}
use Rattle.pit_share.specs.Planners.{TransactionState, SeesOn}
use Rattle.pit_job.specs.Effect.{Agrees, Known, Effect, changes, nothing, read_in, with_written, step_after, steps_after, changes_after}
use Rattle.pit_job.specs.Outcomes.{IsMovedBlock, HasNoWrite, IsReadOver, IsReadAmong}
use Rattle.pit_job.specs.declared.doing.StepStop.{StepStop}
use Rattle.pit_job.specs.declared.doing.StepStop.TheVariants as stop

-- what a work changes
abbrev pub own_of : Sets → Commit
own_of work = record { writes = work.writes; revises = work.revises }

-- what steps come to that go on with these changes, or fail
abbrev pub come_to : Bool → Commit → Effect
come_to true own = changes own
come_to false own = nothing

-- the same transaction, which may have read more, of a planner who may have seen more
pub record Same (old new : TransactionState) : Type 0 where
  pub sees : SeesOn old.planner new.planner
  pub job : new.work.job ≡ old.work.job
  pub start : new.work.start ≡ old.work.start
  pub reads : Agrees (read_in old.work.reads) (read_in new.work.reads)

-- what was noted since is of such blocks
pub record NotesOnly (IsOne : ℕ → Type 0) (old new : List (ℕ × Option ℕ)) : Type 0 where
  pub more : List (ℕ × Option ℕ)
  pub grown : new ≡ old ++ more
  pub each : All (λ read. IsOne read.0) more

-- a block was looked up: it is then known, and nothing else changed; it was noted at most where it isn't among the own writes
pub record LooksUp (old : TransactionState) (b : ℕ) (period : Option ℕ) (new : TransactionState) : Type 0 where
  pub same : Same old new
  pub own : own_of new.work ≡ own_of old.work
  pub known : known_of new.work b ≡ Some period
  pub noted : NotesOnly (λ block. (block ≡ b) × HasNoWrite (own_of old.work) block) old.work.reads new.work.reads

-- over whatever holds the reads, the step does what was done, and reads what it noted; it changes nothing where it fails
pub record DoesStep (pit : Pit) (old : TransactionState) (s : Step) (goes : Bool) (new : TransactionState) : Type 0 where
  pub same : Same old new
  pub does : (known : Known) → Agrees (read_in new.work.reads) known → step_after pit known (own_of old.work) s ≡ come_to goes (own_of new.work)
  pub noted : (known : Known) → Agrees (read_in new.work.reads) known → NotesOnly (IsReadOver pit known (own_of old.work) s) old.work.reads new.work.reads
  pub stays : goes ≡ false → own_of new.work ≡ own_of old.work

-- and so for steps in order
pub record DoesSteps (pit : Pit) (old : TransactionState) (ss : List Step) (goes : Bool) (new : TransactionState) : Type 0 where
  pub same : Same old new
  pub does : (known : Known) → Agrees (read_in new.work.reads) known → steps_after pit known (own_of old.work) ss ≡ come_to goes (own_of new.work)
  pub own : (known : Known) → Agrees (read_in new.work.reads) known → changes_after pit known (own_of old.work) ss ≡ own_of new.work
  pub noted : (known : Known) → Agrees (read_in new.work.reads) known → NotesOnly (IsReadAmong pit known (own_of old.work) ss) old.work.reads new.work.reads

-- where it is stopped as moved, the block is one of these, and has moved since the start; and where there is no entry, there is such a block
abbrev pub Meets : (ℕ → Type 0) → ℕ → List Answered → StepStop → Type 0
Meets IsOne start seen (stop.Moved block version) = IsOne block × IsMovedBlock seen start block version
Meets IsOne start seen stop.NoMemory = ⊤
Meets IsOne start seen stop.NoEntry = (block : ℕ) × IsOne block

-- It was stopped: nothing is written or revised; what was noted is of such blocks, and so is the one that has moved, or of which there is no entry. None of
-- them is among the own writes.
pub record StopsAt (IsOne : ℕ → Type 0) (old : TransactionState) (why : StepStop) (new : TransactionState) : Type 0 where
  pub same : Same old new
  pub own : own_of new.work ≡ own_of old.work
  pub noted : NotesOnly (λ c. IsOne c × HasNoWrite (own_of old.work) c) old.work.reads new.work.reads
  pub meets : Meets (λ c. IsOne c × HasNoWrite (own_of old.work) c) old.work.start new.planner.seen why

-- Nothing more was seen since; or it was last looked at one of these blocks, and of all commits that were then seen, none past the start names it.
abbrev pub SeesUnmoved : (ℕ → Type 0) → ℕ → List Answered → List Answered → Type 0
SeesUnmoved IsOne start old new = (new ≡ old) ⊎ ((block : ℕ) × IsOne block × (last_number (commits_of new) block ≤ start))

-- so it is of a transaction's planner
abbrev pub LooksOn : (ℕ → Type 0) → TransactionState → TransactionState → Type 0
LooksOn IsOne old new = SeesUnmoved IsOne old.work.start old.planner.seen new.planner.seen

-- so it is where it was stopped otherwise than as moved
abbrev pub StopsUnmoved : (ℕ → Type 0) → TransactionState → StepStop → TransactionState → Type 0
StopsUnmoved IsOne old (stop.Moved block version) new = ⊤
StopsUnmoved IsOne old stop.NoMemory new = LooksOn IsOne old new
StopsUnmoved IsOne old stop.NoEntry new = LooksOn IsOne old new

-- and where it went on
abbrev pub MeetsNone : {X : Type 0} → (ℕ → Type 0) → TransactionState → Result X StepStop → TransactionState → Type 0
MeetsNone IsOne old (Ok x) new = LooksOn IsOne old new
MeetsNone IsOne old (Err why) new = StopsUnmoved IsOne old why new

-- a step that was stopped: the blocks are those that it reads over what is noted then
abbrev pub StepStopsAt : Pit → TransactionState → Step → StepStop → TransactionState → Type 0
StepStopsAt pit old s why new = StopsAt (IsReadOver pit (read_in new.work.reads) (own_of old.work) s) old why new

-- a transaction that has begun for a job, after the commits that its planner has seen, and done nothing
pub record IsFresh (n : ℕ) (t : TransactionState) : Type 0 where
  pub job : t.work.job ≡ n
  pub after : t.work.start ≡ length (commits_of t.planner.seen)
  pub own : own_of t.work ≡ record { writes = []; revises = [] }
  pub reads : t.work.reads ≡ []

-- it is done, by one more write of the own ones
pub record Puts (old : TransactionState) (b : ℕ) (period : Option ℕ) (goes : Bool) (new : TransactionState) : Type 0 where
  pub done : goes ≡ true
  pub same : Same old new
  pub own : own_of new.work ≡ with_written (own_of old.work) b period
  pub reads : new.work.reads ≡ old.work.reads

-- why a block was not looked up, as far as the transaction shows it: without an entry nothing has changed; out of memory the block hasn't moved
abbrev pub IsUnseen : TransactionState → ℕ → StepStop → TransactionState → Type 0
IsUnseen old b (stop.Moved block version) new = new.work ≡ old.work
IsUnseen old b stop.NoMemory new = (last_number (commits_of new.planner.seen) b ≤ old.work.start) × (new.work ≡ old.work)
IsUnseen old b stop.NoEntry new = new ≡ old
