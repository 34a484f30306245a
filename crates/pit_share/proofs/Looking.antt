-- What a transaction notes.
use Rattle.std.proofs.Common.{◌≡◌, ℕ, ◌<◌, ◌≤◌, ℤ, false, nat_eq, nat_le, List, [], ◌∷◌, ◌++◌, length, take, Option, Some, None, refl, sym, ap, ◌∙◌, subst, arith}
use Rattle.std.specs.Prelude.{is_some, if◌then◌else◌, IfSome, MatchOption, Result, Ok, Err, OnOk, OnErr}
use Rattle.std.proofs.lemmas.List.Elements.{All-nil, All-push}
use mathlib.Core.List.{IsPrefix}
use Rattle.pit_model.specs.Pit.{Pit}
use Rattle.pit_plan.specs.Schedule.{Commit, held_period, last_number}
use Rattle.pit_plan.proofs.CallerLemmas.{one_snapshot, held_in_range}
use Rattle.pit_keyed.specs.Keyed.{at_key, with_read}
use Rattle.pit_tx.specs.Sets.{Sets, empty_sets, known_of}
use Rattle.pit_tx.specs.Refusals.{refusal_of}
use Rattle.pit_desk.specs.History.{Answered, commits_of}
use Rattle.pit_desk.proofs.CallerLemmas.{commits_of-prefix}
use Rattle.pit_board.specs.Boards.{slot_of}
use Rattle.pit_board.specs.Prefixes.{AreLawful}
use Rattle.pit_board.specs.declared.slot.Slot.{Slot}
use Rattle.pit_desk.specs.Noted.{AreHeld}
use Rattle.pit_share.specs.Planners.{PlannerState, TransactionState, planner_of, SeesOn, IsTransactionKept}
use Rattle.pit_share.specs.Reads.{IsNoted}
use Rattle.pit_share.proofs.Noted.{of-start-grows}

-- ---- what is so of each transaction

-- at its beginning
pub kept-begun : (pit : Pit) (planner : PlannerState) (job start : ℕ) (work : Sets) → start ≡ length (commits_of planner.seen)
    → work ≡ empty_sets pit planner.number job start → IsTransactionKept pit (record { planner = planner; work = work })
kept-begun pit planner job start work seen is = record {
  fits = record {
    blocks = ap (λ (w : Sets). w.blocks) is;
    periods = ap (λ (w : Sets). w.periods) is;
    resources = ap (λ (w : Sets). w.resources) is;
  };
  planner = ap (λ (w : Sets). w.planner) is;
  reads = record {
    seen_start = omega (arith, ap (λ (w : Sets). w.start) is, seen);
    held_then = subst (λ (reads : List (ℕ × Option ℕ)). AreHeld (take work.start (commits_of planner.seen)) reads) (sym (ap (λ (w : Sets). w.reads) is))
        (All-nil (λ (read : ℕ × Option ℕ). read.1 ≡ held_period (take work.start (commits_of planner.seen)) read.0));
  };
}

-- where its planner sees on
pub kept-grows : (pit : Pit) (old new : PlannerState) (work : Sets) → SeesOn old new → IsTransactionKept pit (record { planner = old; work = work })
    → IsTransactionKept pit (record { planner = new; work = work })
kept-grows pit old new work sees kept = record {
  fits = kept.fits;
  planner = kept.planner ∙ sym sees.number;
  reads = of-start-grows (commits_of old.seen) (commits_of new.seen) work.start work.reads (commits_of-prefix old.seen new.seen sees.seen) kept.reads;
}

-- where it notes a read
pub kept-noted : (pit : Pit) (planner : PlannerState) (work : Sets) (b : ℕ) (period : Option ℕ) → period ≡ held_period (take work.start (commits_of planner.seen)) b
    → IsTransactionKept pit (record { planner = planner; work = work })
    → IsTransactionKept pit (record { planner = planner; work = record work { reads = work.reads ++ (b, period) ∷ [] } })
kept-noted pit planner work b period held kept = record {
  fits = record { blocks = kept.fits.blocks; periods = kept.fits.periods; resources = kept.fits.resources };
  planner = kept.planner;
  reads = record {
    seen_start = kept.reads.seen_start;
    held_then = All-push (λ (read : ℕ × Option ℕ). read.1 ≡ held_period (take work.start (commits_of planner.seen)) read.0) work.reads (b, period) kept.reads.held_then held;
  };
}

-- where it writes or revises
pub kept-written : (pit : Pit) (planner : PlannerState) (work : Sets) (writes : List (ℕ × Option ℕ)) → IsTransactionKept pit (record { planner = planner; work = work })
    → IsTransactionKept pit (record { planner = planner; work = record work { writes = writes } })
kept-written pit planner work writes kept =
    record { fits = record { blocks = kept.fits.blocks; periods = kept.fits.periods; resources = kept.fits.resources }; planner = kept.planner; reads = kept.reads }

pub kept-revised : (pit : Pit) (planner : PlannerState) (work : Sets) (revises : List ((ℕ × ℕ) × Option ℤ)) → IsTransactionKept pit (record { planner = planner; work = work })
    → IsTransactionKept pit (record { planner = planner; work = record work { revises = revises } })
kept-revised pit planner work revises kept =
    record { fits = record { blocks = kept.fits.blocks; periods = kept.fits.periods; resources = kept.fits.resources }; planner = kept.planner; reads = kept.reads }

-- whether the call was refused or not
pub kept-either : {T E : Type 0} (r : Result T E) (pit : Pit) (planner : PlannerState) (old later new : Sets) → OnOk r (new ≡ later) → OnErr r (new ≡ old)
    → IsTransactionKept pit (record { planner = planner; work = later }) → IsTransactionKept pit (record { planner = planner; work = old })
    → IsTransactionKept pit (record { planner = planner; work = new })
kept-either (Ok x) pit planner old later new ok err there here = subst (λ (w : Sets). IsTransactionKept pit (record { planner = planner; work = w })) (sym ok) there
kept-either (Err e) pit planner old later new ok err there here = subst (λ (w : Sets). IsTransactionKept pit (record { planner = planner; work = w })) (sym err) here

-- ---- what its planner has seen

-- where the board was looked at, or not
pub sees-either : (found : Option Slot) (number : ℕ) (items old new : List Answered) → MatchOption found (new ≡ old) (λ slot. IsPrefix old new)
    → MatchOption found (planner_of number items new ≡ planner_of number items old) (λ slot. SeesOn (planner_of number items old) (planner_of number items new))
sees-either None number items old new same = ap (planner_of number items) same
sees-either (Some slot) number items old new begins = record { number = refl; items = refl; seen = begins }

-- ---- slots

-- a slot whose version isn't past the start
pub unmoved-slot : (seen : List Commit) (b start : ℕ) (slot : Slot) → slot ≡ slot_of seen b → slot.version ≤ start → last_number seen b ≤ start
unmoved-slot seen b start slot is within = omega (arith, ap (λ (s : Slot). s.version) is, within)

pub period-then : (seen : List Commit) (b start : ℕ) (slot : Slot) → slot ≡ slot_of seen b → slot.version ≤ start → slot.period ≡ held_period (take start seen) b
period-then seen b start slot is within =
    ap (λ (s : Slot). s.period) is ∙ one_snapshot seen b start (unmoved-slot seen b start slot is within)

-- in range where the commits that are seen are lawful
pub period-in_range : (pit : Pit) (seen : List Commit) (b : ℕ) (slot : Slot) → AreLawful pit seen → slot ≡ slot_of seen b → IfSome slot.period (λ t. t < pit.periods)
period-in_range pit seen b slot lawful is =
    subst (λ (s : Slot). IfSome s.period (λ t. t < pit.periods)) (sym is) (held_in_range pit.blocks pit.periods seen b lawful.fit)

-- a slot that is noted by a planner that sees on
pub noted-slot : (old new : TransactionState) (later : PlannerState) (b : ℕ) (slot : Slot) → slot ≡ slot_of (commits_of later.seen) b → slot.version ≤ old.work.start → new.planner ≡ later
    → new.work ≡ record old.work { reads = old.work.reads ++ (b, slot.period) ∷ [] } → IsNoted old b slot.period new
noted-slot old new later b slot is within planner work =
    let seen : slot ≡ slot_of (commits_of new.planner.seen) b = is ∙ ap (λ (p : PlannerState). slot_of (commits_of p.seen) b) (sym planner) in
    record {
      unmoved = unmoved-slot (commits_of new.planner.seen) b old.work.start slot seen within;
      period_is = period-then (commits_of new.planner.seen) b old.work.start slot seen within;
      work = work;
    }

-- ---- a block that isn't known

-- it goes last among the reads
pub with_read-unknown : (sets : Sets) (b : ℕ) (period : Option ℕ) → known_of sets b ≡ None → with_read nat_eq sets.reads b period ≡ sets.reads ++ (b, period) ∷ []
with_read-unknown sets b period unknown = by (at_key nat_eq sets.writes b) (at_key nat_eq sets.reads b) refl unknown
  where
    by : (written read : Option (Option ℕ)) → at_key nat_eq sets.reads b ≡ read → (if is_some written then written else read) ≡ None
        → with_read nat_eq sets.reads b period ≡ sets.reads ++ (b, period) ∷ []
    by (Some v) read is none = absurd (cc (none))
    by None (Some v) is none = absurd (cc (none))
    by None None is none = rw is refl

-- in range the only refusal that is left is out of memory
pub refusal-none : (sets : Sets) (b : ℕ) (period : Option ℕ) → b < sets.blocks → IfSome period (λ t. t < sets.periods) → refusal_of sets b period ≡ None
refusal-none sets b None below within =
    let in_range : nat_le sets.blocks b ≡ false = grind (arith, below) in
    rw in_range refl
refusal-none sets b (Some t) below within =
    let in_range : nat_le sets.blocks b ≡ false = grind (arith, below) in
    let in_time : nat_le sets.periods t ≡ false = grind (arith, within) in
    rw (in_range, in_time) refl
