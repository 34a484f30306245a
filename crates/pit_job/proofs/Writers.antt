-- The commit that the pair of an outcome Moved names.
use Rattle.std.proofs.Common.{◌≡◌, ℕ, zero, suc, ◌+◌, ◌<◌, ◌≤◌, Bool, true, false, List, [], ◌∷◌, length, Some, refl, subst, ◌∙◌, arith, inl, inr}
use Rattle.std.specs.Prelude.{slice_get, is_some, ◌⊎◌, if◌then◌else◌}
use mathlib.Core.List.{IsPrefix}
use Rattle.pit_model.specs.Pit.{Pit}
use Rattle.pit_plan.specs.Schedule.{Commit, write_of, last_number, last_number_after}
use Rattle.pit_desk.specs.History.{Answered, commits_of}
use Rattle.pit_desk.proofs.CallerLemmas.{commits_of-prefix}
use Rattle.pit_desk.specs.declared.reply.Refusal.TheVariants as refusal
use Rattle.pit_script.specs.Jobs.{Job}
use Rattle.pit_job.specs.declared.outcome.Outcome.{Outcome}
use Rattle.pit_job.specs.declared.outcome.Outcome.TheVariants as outcome
use Rattle.pit_job.specs.declared.outcome.RunEnd.{RunEnd}
use Rattle.pit_job.specs.Outcomes.{IsMovedBlock}
use Rattle.pit_job.specs.Runs.{Ran, RanFrom}
use Rattle.pit_job.specs.JobByJob.{IsWriter}
use Rattle.pit_job.proofs.Seeing.{commits-fewer, moved-on}
use Rattle.pit_job.proofs.Growing.{repeats-sees, ran-sees, all-sees}

-- the last number is the one before, or that of a commit which names the block
last-names : (n found : ℕ) (commits : List Commit) (b : ℕ)
    → (last_number_after n found commits b ≡ found)
    ⊎ ((place : ℕ) × (w : Commit) × (last_number_after n found commits b ≡ (n + 1) + place) × (slice_get commits place ≡ Some w) × (is_some (write_of w b) ≡ true))
last-names n found [] b = inl refl
last-names n found (w ∷ ws) b = by (is_some (write_of w b)) refl (last-names (n + 1) (if is_some (write_of w b) then n + 1 else found) ws b)
  where
    number : Bool → ℕ
    number x = last_number_after (n + 1) (if x then n + 1 else found) ws b

    by : (x : Bool) → is_some (write_of w b) ≡ x
        → (number x ≡ (if x then n + 1 else found))
        ⊎ ((place : ℕ) × (v : Commit) × (number x ≡ ((n + 1) + 1) + place) × (slice_get ws place ≡ Some v) × (is_some (write_of v b) ≡ true))
        → (number x ≡ found)
        ⊎ ((place : ℕ) × (v : Commit) × (number x ≡ (n + 1) + place) × (slice_get (w ∷ ws) place ≡ Some v) × (is_some (write_of v b) ≡ true))
    by x is (inr later) = inr (suc later.0, later.1, (let at = later.2 in omega arith), later.3, later.4)
    by true is (inl here) = inr (0, w, omega (arith, here), refl, is)
    by false is (inl before) = inl before

number-names : (commits : List Commit) (b : ℕ) → 0 < last_number commits b
    → (place : ℕ) × (w : Commit) × (last_number commits b ≡ 1 + place) × (slice_get commits place ≡ Some w) × (is_some (write_of w b) ≡ true)
unfolding last_number
number-names commits b some =
    elim (last-names 0 0 commits b) [
      | inl none ↦ absurd (omega (arith, none, some))
      | inr found ↦ found
    ]

get-on : {X : Type 0} (xs ys : List X) (k : ℕ) (x : X) → IsPrefix xs ys → slice_get xs k ≡ Some x → slice_get ys k ≡ Some x
get-on [] ys k x begins at = absurd (cc at)
get-on (y ∷ xs) [] k x begins at = absurd (cc (begins.1))
get-on (y ∷ xs) (z ∷ ys) zero x begins at = cc (begins.1, at)
get-on (y ∷ xs) (z ∷ ys) (suc k) x begins at = get-on xs ys k x (begins.0, cc (begins.1)) at

-- a block that moved has a writer of that number
pub moved-writer : (seen : List Answered) (start block version : ℕ) → IsMovedBlock seen start block version → IsWriter seen version block
moved-writer seen start block version moved =
    let last = moved.last in
    let past = moved.past in
    let found = number-names (commits_of moved.prefix) block (omega arith) in
    record {
      place = found.0;
      commit = found.1;
      number = last ∙ found.2;
      at = get-on (commits_of moved.prefix) (commits_of seen) found.0 found.1 (commits_of-prefix moved.prefix seen moved.begins) found.3;
      writes = found.4;
    }

-- an outcome Moved has the pair of a block that moved after the job had begun
given-moved : (pit : Pit) (task : Job) (retries n : ℕ) (old new es : List Answered) (o : Outcome) (block version tries : ℕ) → Ran pit task retries n old new es o
    → o ≡ outcome.Refused (refusal.Moved block version) tries → (start : ℕ) × (length (commits_of old) ≤ start) × IsMovedBlock new start block version
given-moved pit task retries n old new es o block version tries (inl s) is =
    let answer = s.answer in
    let other = s.other in
    absurd (cc (answer, other, is))
given-moved pit task retries n old new es o block version tries (inr g) is =
    let answer = g.answer in
    let one : g.block ≡ block = cc (answer, is) in
    let two : g.version ≡ version = cc (answer, is) in
    let fewer = commits-fewer old g.mid (repeats-sees pit task n retries old g.mid g.repeated g.repeats) in
    let after = g.moved.after in
    (g.moved.start, omega arith, subst (λ (b : ℕ). IsMovedBlock new g.moved.start b version) one (subst (IsMovedBlock new g.moved.start g.block) two g.moved.moved))

outcome-moved : (pit : Pit) (max_entries retries n : ℕ) (old new : List Answered) (jobs : List Job) (es : List Answered) (os : List Outcome) (ended : RunEnd) → RanFrom pit max_entries retries old new n jobs es os ended
    → (j block version tries : ℕ) → slice_get os j ≡ Some (outcome.Refused (refusal.Moved block version) tries)
    → (start : ℕ) × (length (commits_of old) ≤ start) × IsMovedBlock new start block version
outcome-moved pit max_entries retries n old new jobs es [] ended ran j block version tries at = absurd (cc at)
outcome-moved pit max_entries retries n old new [] es (o ∷ os) ended ran j block version tries at = absurd ran
outcome-moved pit max_entries retries n old new (task ∷ rest) es (o ∷ os) ended (mid, mine, later, cut, ran, more) zero block version tries at =
    let found = given-moved pit task retries n old mid mine o block version tries ran (cc at) in
    (found.0, found.1, moved-on mid new found.0 block version (all-sees pit max_entries retries (n + 1) mid new rest later os ended more) found.2)
outcome-moved pit max_entries retries n old new (task ∷ rest) es (o ∷ os) ended (mid, mine, later, cut, ran, more) (suc j) block version tries at =
    let found = outcome-moved pit max_entries retries (n + 1) mid new rest later os ended more j block version tries at in
    let fewer = commits-fewer old mid (ran-sees pit task retries n old mid mine o ran) in
    let after = found.1 in
    (found.0, omega arith, found.2)

pub outcome-writer : (pit : Pit) (max_entries retries n : ℕ) (old new : List Answered) (jobs : List Job) (es : List Answered) (os : List Outcome) (ended : RunEnd) → RanFrom pit max_entries retries old new n jobs es os ended
    → (j block version tries : ℕ) → slice_get os j ≡ Some (outcome.Refused (refusal.Moved block version) tries) → (length (commits_of old) < version) × IsWriter new version block
outcome-writer pit max_entries retries n old new jobs es os ended ran j block version tries at =
    let found = outcome-moved pit max_entries retries n old new jobs es os ended ran j block version tries at in
    let after = found.1 in
    let past = found.2.past in
    (omega arith, moved-writer new found.0 block version found.2)
