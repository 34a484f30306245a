-- That a block which was looked at last had not moved.
use Rattle.std.proofs.Common.{inl, inr, ◌≡◌, ℕ, ◌≤◌, List, sym, subst, ◌∙◌}
use Rattle.std.proofs.lemmas.Bool.{false≢true}
use Rattle.std.specs.Prelude.{Result, Ok, Err, IsErr, IsErrAnd}
use Rattle.pit_plan.specs.Schedule.{last_number}
use Rattle.pit_desk.specs.History.{Answered, commits_of}
use Rattle.pit_share.specs.Planners.{TransactionState}
use Rattle.pit_job.specs.Inside.Doing.{LooksOn, StopsUnmoved, MeetsNone}
use Rattle.pit_job.specs.declared.doing.StepStop.{StepStop}
use Rattle.pit_job.specs.declared.doing.StepStop.TheVariants as stop

-- of these blocks, it was of those
pub looks-map : (P Q : ℕ → Type 0) (old new : TransactionState) → ((c : ℕ) → P c → Q c) → LooksOn P old new → LooksOn Q old new
looks-map P Q old new f (inl same) = inl same
looks-map P Q old new f (inr (block, is, unmoved)) = inr (block, f block is, unmoved)

-- one after another
pub looks-trans : (P : ℕ → Type 0) (a b c : TransactionState) → b.work.start ≡ a.work.start → LooksOn P a b → LooksOn P b c → LooksOn P a c
looks-trans P a b c start (inl same) (inl again) = inl (again ∙ same)
looks-trans P a b c start (inr (block, is, unmoved)) (inl again) =
    inr (block, is, subst (λ (seen : List Answered). last_number (commits_of seen) block ≤ a.work.start) (sym again) unmoved)
looks-trans P a b c start first (inr (block, is, unmoved)) = inr (block, is, subst (λ (n : ℕ). last_number (commits_of c.planner.seen) block ≤ n) start unmoved)

-- a stop at such a block is one at such another
pub stop-map : (P Q : ℕ → Type 0) (old new : TransactionState) (why : StepStop) → ((c : ℕ) → P c → Q c) → StopsUnmoved P old why new → StopsUnmoved Q old why new
stop-map P Q old new (stop.Moved block version) f is = tt
stop-map P Q old new stop.NoMemory f is = looks-map P Q old new f is
stop-map P Q old new stop.NoEntry f is = looks-map P Q old new f is

-- first it went on
pub stop-later : (P : ℕ → Type 0) (a b c : TransactionState) (why : StepStop) → b.work.start ≡ a.work.start → LooksOn P a b → StopsUnmoved P b why c → StopsUnmoved P a why c
stop-later P a b c (stop.Moved block version) start first is = tt
stop-later P a b c stop.NoMemory start first is = looks-trans P a b c start first is
stop-later P a b c stop.NoEntry start first is = looks-trans P a b c start first is

-- a stop that is handed on
pub unmoved-handed : {X : Type 0} (P : ℕ → Type 0) (old new : TransactionState) (result : Result X StepStop) (why : StepStop) → IsErr result → IsErrAnd result (λ (e : StepStop). e ≡ why)
    → StopsUnmoved P old why new → MeetsNone P old result new
unmoved-handed P old new (Ok x) why err same is = absurd (false≢true err)
unmoved-handed P old new (Err e) why err same is = subst (λ (w : StepStop). StopsUnmoved P old w new) (sym same) is
