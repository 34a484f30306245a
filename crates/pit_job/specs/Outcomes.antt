-- What becomes of jobs.
use Rattle.std.specs.Prelude.{◌≡◌, ℕ, zero, suc, nat_eq, ◌<◌, ◌≤◌, ◌⊎◌, Bool, true, false, List, [], ◌∷◌, ◌++◌, length, None, All, Contains}
use mathlib.Core.List.{IsPrefix}
use Rattle.pit_model.specs.Pit.{Pit}
use Rattle.pit_plan.specs.Schedule.{Commit, last_number}
use Rattle.pit_keyed.specs.Keyed.{at_key}
use Rattle.pit_desk.specs.History.{Answered, Call, commits_of}
use Rattle.pit_desk.specs.declared.reply.Refusal.{Refusal}
use Rattle.pit_desk.specs.declared.reply.Refusal.TheVariants as refusal
use Rattle.pit_desk.specs.declared.reply.EntryReply.{EntryReply}
use Rattle.pit_desk.specs.declared.reply.EntryReply.TheVariants as reply
use Rattle.pit_share.specs.Planners.{PlannerState}
use Rattle.pit_script.specs.Jobs.{Job}
use Rattle.pit_script.specs.declared.step.Step.{Step}
use Rattle.pit_script.specs.declared.step.Step.TheVariants as step
use Rattle.pit_job.specs.Cones.{IsNextOf, Reaches}
use Rattle.pit_job.specs.Effect.{Known, Effect, changes, unread, nothing, no_change, read_in, seen, leads_to, members_of, step_after, HasEffect, HasChanges}

-- a block that the call read was moved
abbrev pub is_moved_refusal : Refusal → Bool
is_moved_refusal (refusal.Ahead start commits) = false
is_moved_refusal (refusal.Moved block version) = true
is_moved_refusal (refusal.Misread block) = false
is_moved_refusal (refusal.Precedence block before) = false
is_moved_refusal (refusal.Over resource period load limit) = false

abbrev pub is_moved_reply : EntryReply → Bool
is_moved_reply (reply.Committed number) = false
is_moved_reply (reply.Refused why) = is_moved_refusal why
is_moved_reply reply.Withdrawn = false

-- ---- entries of a job

-- the changes have nothing of the block; what they have of one answers a read of it, and that isn't noted
abbrev pub HasNoWrite : Commit → ℕ → Type 0
HasNoWrite own block = at_key nat_eq own.writes block ≡ None

-- over what is known, with the own writes laid over it, the step reads the block, which isn't among the own writes
abbrev pub IsReadOver : Pit → Known → Commit → Step → ℕ → Type 0
IsReadOver pit known own (step.Read b) block = (block ≡ b) × HasNoWrite own block
IsReadOver pit known own (step.Put b period) block = ⊥
IsReadOver pit known own (step.Clear b) block = ⊥
IsReadOver pit known own (step.Shift b is_back by) block = (block ≡ b) × HasNoWrite own block
IsReadOver pit known own (step.Bench height period) block = ⊥
IsReadOver pit known own (step.Expect b period) block = (block ≡ b) × HasNoWrite own block
IsReadOver pit known own (step.Carry how b period) block =
    IsNextOf (leads_to pit how) b (members_of pit how (λ c. seen known own c) b period) block × HasNoWrite own block
IsReadOver pit known own (step.Revise resource period upper) block = ⊥

-- it goes on, and this is so of the changes so far
abbrev pub IfGoesOn : Effect → (Commit → Type 0) → Type 0
IfGoesOn (changes own) P = P own
IfGoesOn unread P = ⊥
IfGoesOn nothing P = ⊥

-- one of the steps does, after those before it
abbrev pub IsReadAmong : Pit → Known → Commit → List Step → ℕ → Type 0
IsReadAmong pit known own [] block = ⊥
IsReadAmong pit known own (s ∷ steps) block =
    IsReadOver pit known own s block ⊎ IfGoesOn (step_after pit known own s) (λ after. IsReadAmong pit known after steps block)

-- the step may read the block, whatever is known
abbrev pub IsReadBy : Pit → ℕ → Step → Type 0
IsReadBy pit block (step.Read b) = block ≡ b
IsReadBy pit block (step.Put b period) = ⊥
IsReadBy pit block (step.Clear b) = ⊥
IsReadBy pit block (step.Shift b is_back by) = block ≡ b
IsReadBy pit block (step.Bench height period) = ⊥
IsReadBy pit block (step.Expect b period) = block ≡ b
IsReadBy pit block (step.Carry how b period) = Reaches (leads_to pit how) b block
IsReadBy pit block (step.Revise resource period upper) = ⊥

-- one of the steps may
pub record IsRead (pit : Pit) (steps : List Step) (block : ℕ) : Type 0 where
  pub reader : Step
  pub among : Contains steps reader
  pub reads : IsReadBy pit block reader

-- it has the job's effect over its reads, and the changes of the job's steps; and each block that it noted, a step reads over these reads
pub record IsCallOf (pit : Pit) (task : Job) (call : Call) : Type 0 where
  pub effect : HasEffect pit task call
  pub changes : HasChanges pit task call
  pub reads : All (λ read. IsReadAmong pit (read_in call.reads) no_change task.steps read.0) call.reads

-- an entry of a job
pub record IsItem (pit : Pit) (task : Job) (n : ℕ) (e : Answered) : Type 0 where
  pub job : e.call.job ≡ n
  pub call : IsCallOf pit task e.call

-- it is the last of a prefix of what was seen
pub record StandsIn (seen : List Answered) (e : Answered) : Type 0 where
  pub before : List Answered
  pub begins : IsPrefix (before ++ e ∷ []) seen

-- ---- tries that end by Moved

-- of the commits of some prefix of what was seen, the last one that names the block has this number, which is past the start
pub record IsMovedBlock (seen : List Answered) (start block version : ℕ) : Type 0 where
  pub prefix : List Answered
  pub begins : IsPrefix prefix seen
  pub last : version ≡ last_number (commits_of prefix) block
  pub past : start < version

-- an entry of a job that began after so many commits, and was refused as moved
pub record IsMovedItem (pit : Pit) (task : Job) (n start block version : ℕ) (e : Answered) : Type 0 where
  pub item : IsItem pit task n e
  pub begun : e.call.start ≡ start
  pub answer : e.reply ≡ reply.Refused (refusal.Moved block version)

-- A try that ended by Moved, of a block that a step may read: it made one entry, which was refused so, or none. The commit of this number has then been
-- seen, and is past the start of the try, which began after no fewer commits than had been seen before.
pub record IsMovedTry (pit : Pit) (task : Job) (n : ℕ) (old new es : List Answered) (block version : ℕ) : Type 0 where
  pub start : ℕ
  pub after : length (commits_of old) ≤ start
  pub sees : IsPrefix old new
  pub moved : IsMovedBlock new start block version
  pub read : IsRead pit task.steps block
  pub made : ((e : Answered) × (es ≡ e ∷ []) × IsMovedItem pit task n start block version e) ⊎ (es ≡ [])

-- so many tries of a job, one after another, that ended by Moved, with their entries
abbrev pub Repeats : Pit → Job → ℕ → ℕ → List Answered → List Answered → List Answered → Type 0
Repeats pit task n zero old new es = (es ≡ []) × IsPrefix old new
Repeats pit task n (suc before) old new es =
    (mid : List Answered) × (earlier : List Answered) × (last : List Answered) × (block : ℕ) × (version : ℕ) × (es ≡ earlier ++ last)
    × Repeats pit task n before old mid earlier × IsMovedTry pit task n mid new last block version

-- a planner's log grew by these entries, and it has seen what it had seen, and maybe more
pub record Grows (old : PlannerState) (es : List Answered) (new : PlannerState) : Type 0 where
  pub number : new.number ≡ old.number
  pub items : new.items ≡ old.items ++ es
  pub seen : IsPrefix old.seen new.seen
