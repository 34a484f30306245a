-- What a walk reads and finds.
use Rattle.std.specs.Prelude.{◌≡◌, ◌⊎◌, ℕ, ◌<◌, Bool, true, false, List, [], ◌∷◌, ◌++◌, Option, Some, is_some, nat_eq, if◌then◌else◌, length, slice_index_or}
use Rattle.std.specs.List.{All, Contains, IsDistinct, list_any}
use Rattle.pit_model.specs.Pit.{Pit}
use Rattle.pit_tx.specs.Sets.{known_of}
use Rattle.pit_share.specs.Planners.{TransactionState}
use Rattle.pit_script.specs.declared.step.Way.{Way}
use Rattle.pit_job.specs.Cones.{in_round, IsNextOf}
use Rattle.pit_job.specs.Effect.{Known, is_carried, leads_to, members_of, with_bench}
use Rattle.pit_job.specs.Outcomes.{HasNoWrite}
use Rattle.pit_job.specs.Inside.Doing.{own_of, Same, LooksUp, NotesOnly}

-- Visited are blocks that are known, found the members among them: all that are wanted, each once. No block is visited but the start and what is led to.
pub record IsWalk (blocks : ℕ) (wanted : Option (Option ℕ) → Bool) (next : ℕ → List ℕ) (start : ℕ) (known : Known) (visited found : List ℕ) : Type 0 where
  pub read : All (λ a. is_some (known a) ≡ true) visited
  pub below : All (λ a. a < blocks) visited
  pub led : All (IsNextOf next start found) visited
  pub visits : All (Contains visited) found
  pub finds : All (λ m. in_round blocks (λ b. wanted (known b)) next start blocks m ≡ true) found
  pub distinct : IsDistinct nat_eq found
  pub whole : (a : ℕ) → Contains visited a → wanted (known a) ≡ true → Contains found a

-- the blocks that a walk has visited, and those that it has found, each in order
pub record WalkState : Type 0 where
  pub visited : List ℕ
  pub found : List ℕ

-- the set has just the blocks that were visited
abbrev pub AreMarked : List Bool → List ℕ → Type 0
AreMarked marks visited = (b : ℕ) → slice_index_or marks b false ≡ list_any (nat_eq b) visited

-- a block that was not visited is looked up, and found where it is carried along
pub record IsVisited (how : Way) (t : ℕ) (old : TransactionState) (walk : WalkState) (b : ℕ) (new : TransactionState) (after : WalkState) : Type 0 where
  pub held : Option ℕ
  pub fresh : list_any (nat_eq b) walk.visited ≡ false
  pub looks : LooksUp old b held new
  pub visited : after.visited ≡ walk.visited ++ b ∷ []
  pub found : after.found ≡ (if is_carried how t (Some held) then walk.found ++ b ∷ [] else walk.found)

-- any other is left
abbrev pub Visits : Way → ℕ → TransactionState → WalkState → ℕ → TransactionState → WalkState → Type 0
Visits how t old walk b new after = ((new ≡ old) × (after ≡ walk) × (list_any (nat_eq b) walk.visited ≡ true)) ⊎ IsVisited how t old walk b new after

-- one after another
abbrev pub VisitsEach : Way → ℕ → TransactionState → WalkState → List ℕ → TransactionState → WalkState → Type 0
VisitsEach how t old walk [] new after = (new ≡ old) × (after ≡ walk)
VisitsEach how t old walk (b ∷ bs) new after =
    (mid : TransactionState) × (between : WalkState) × Visits how t old walk b mid between × VisitsEach how t mid between bs new after

-- Of a transaction that changes nothing meanwhile: what it has noted is of blocks that were visited, and not among the own writes.
pub record IsGoing (pit : Pit) (how : Way) (start t : ℕ) (old new : TransactionState) (now : WalkState) : Type 0 where
  pub same : Same old new
  pub own : own_of new.work ≡ own_of old.work
  pub noted : NotesOnly (λ c. Contains now.visited c × HasNoWrite (own_of old.work) c) old.work.reads new.work.reads
  pub walk : IsWalk pit.blocks (is_carried how t) (leads_to pit how) start (λ c. known_of new.work c) now.visited now.found

-- it has begun, and visited all that the first i that it found lead to
pub record IsGone (pit : Pit) (how : Way) (start t : ℕ) (old : TransactionState) (new : TransactionState) (walk : WalkState) (i : ℕ) : Type 0 where
  pub going : IsGoing pit how start t old new walk
  pub first : Contains walk.visited start
  pub done : (j a : ℕ) → j < i → j < length walk.found → Contains (leads_to pit how (slice_index_or walk.found j 0)) a → Contains walk.visited a

-- over what the transaction knows now, the line reads the block
abbrev pub IsReadNow : Pit → Way → ℕ → ℕ → TransactionState → ℕ → Type 0
IsReadNow pit how start t now block = IsNextOf (leads_to pit how) start (members_of pit how (λ c. known_of now.work c) start t) block

-- all these are put into a period, one after another, and nothing is read
pub record PutsEach (old : TransactionState) (blocks : List ℕ) (t : ℕ) (new : TransactionState) : Type 0 where
  pub same : Same old new
  pub own : own_of new.work ≡ with_bench (own_of old.work) blocks t
  pub reads : new.work.reads ≡ old.work.reads
