-- What becomes of a planner's script.
use Rattle.std.specs.Prelude.{◌≡◌, ℕ, ◌+◌, ◌≤◌, ◌⊎◌, false, List, [], ◌∷◌, ◌++◌, length}
use mathlib.Core.List.{IsPrefix}
use Rattle.pit_model.specs.Pit.{Pit}
use Rattle.pit_desk.specs.History.{Answered, commits_of}
use Rattle.pit_desk.specs.declared.reply.Refusal.TheVariants as refusal
use Rattle.pit_desk.specs.declared.reply.EntryReply.{EntryReply}
use Rattle.pit_desk.specs.declared.reply.EntryReply.TheVariants as reply
use Rattle.pit_script.specs.Jobs.{Job}
use Rattle.pit_job.specs.declared.outcome.Outcome.{Outcome}
use Rattle.pit_job.specs.declared.outcome.Outcome.TheVariants as outcome
use Rattle.pit_job.specs.declared.outcome.RunEnd.{RunEnd}
use Rattle.pit_job.specs.declared.outcome.RunEnd.TheVariants as end
use Rattle.pit_script.specs.declared.step.Step.{Step}
use Rattle.pit_job.specs.Outcomes.{IsItem, StandsIn, IsMovedTry, IsRead, Repeats, is_moved_reply}

abbrev pub reply_of : Outcome → EntryReply
reply_of (outcome.Committed number tries) = reply.Committed number
reply_of (outcome.Withdrawn tries) = reply.Withdrawn
reply_of (outcome.Refused why tries) = reply.Refused why

abbrev pub tries_of : Outcome → ℕ
tries_of (outcome.Committed number tries) = tries
tries_of (outcome.Withdrawn tries) = tries
tries_of (outcome.Refused why tries) = tries

-- Some tries ended by Moved, and the next one made an entry with another reply, which is the outcome's, and which is then seen. It began behind all
-- that had been seen before, and not behind more than is seen then.
pub record Settled (pit : Pit) (task : Job) (retries n : ℕ) (old new es : List Answered) (o : Outcome) : Type 0 where
  pub before : ℕ
  pub mid : List Answered
  pub repeated : List Answered
  pub last : Answered
  pub cut : es ≡ repeated ++ last ∷ []
  pub repeats : Repeats pit task n before old mid repeated
  pub sees : IsPrefix mid new
  pub item : IsItem pit task n last
  pub after : length (commits_of mid) ≤ last.call.start
  pub before_more : last.call.start ≤ length (commits_of new)
  pub stands : StandsIn new last
  pub answer : last.reply ≡ reply_of o
  pub other : is_moved_reply last.reply ≡ false
  pub tries : tries_of o ≡ before + 1
  pub few : before ≤ retries

-- all tries ended by Moved, and the outcome is the last one's
pub record GivenUp (pit : Pit) (task : Job) (retries n : ℕ) (old new es : List Answered) (o : Outcome) : Type 0 where
  pub mid : List Answered
  pub repeated : List Answered
  pub last : List Answered
  pub block : ℕ
  pub version : ℕ
  pub cut : es ≡ repeated ++ last
  pub repeats : Repeats pit task n retries old mid repeated
  pub moved : IsMovedTry pit task n mid new last block version
  pub answer : o ≡ outcome.Refused (refusal.Moved block version) (retries + 1)

-- the entries of one job, and its outcome, of a planner who had seen the old list before it, and has then seen no more than the new one
abbrev pub Ran : Pit → Job → ℕ → ℕ → List Answered → List Answered → List Answered → Outcome → Type 0
Ran pit task retries n old new es o = Settled pit task retries n old new es o ⊎ GivenUp pit task retries n old new es o

-- some tries ended by Moved, no more than there are retries
pub record LeftOff (pit : Pit) (task : Job) (retries n : ℕ) (old new es : List Answered) : Type 0 where
  pub before : ℕ
  pub repeats : Repeats pit task n before old new es
  pub few : before ≤ retries

-- The run ended before job n, of these steps, had its outcome. Where that is since the history is full, the planner has seen so many entries; where
-- the planner wasn't let in at the board, a step may read a block.
abbrev pub EndedBefore : Pit → ℕ → List Step → List Answered → ℕ → RunEnd → Type 0
EndedBefore pit max_entries steps seen n end.Whole = ⊥
EndedBefore pit max_entries steps seen n (end.Full job) = (job ≡ n) × (max_entries ≤ length seen)
EndedBefore pit max_entries steps seen n (end.NoMemory job) = job ≡ n
EndedBefore pit max_entries steps seen n (end.NoEntry job) = (job ≡ n) × ((block : ℕ) × IsRead pit steps block)
EndedBefore pit max_entries steps seen n end.NoThread = ⊥

-- the entries of jobs that are numbered from n, one after the other, with their outcomes, and how that ended, of a planner who had seen the old list
-- before them, and has then seen no more than the new one
abbrev pub RanFrom : Pit → ℕ → ℕ → List Answered → List Answered → ℕ → List Job → List Answered → List Outcome → RunEnd → Type 0
RanFrom pit max_entries retries old new n [] es [] ended = (es ≡ []) × (ended ≡ end.Whole) × IsPrefix old new
RanFrom pit max_entries retries old new n [] es (o ∷ os) ended = ⊥
RanFrom pit max_entries retries old new n (task ∷ rest) es [] ended = EndedBefore pit max_entries task.steps new n ended × LeftOff pit task retries n old new es
RanFrom pit max_entries retries old new n (task ∷ rest) es (o ∷ os) ended =
    (mid : List Answered) × (mine : List Answered) × (later : List Answered) × (es ≡ mine ++ later)
    × Ran pit task retries n old mid mine o × RanFrom pit max_entries retries mid new (n + 1) rest later os ended
