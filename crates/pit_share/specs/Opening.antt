-- What a workspace is opened with, and when it isn't.
use Rattle.std.specs.Prelude.{◌≡◌, ℕ, ◌+◌, ◌≤◌, ◌<◌, List, length, slice_index}
use Rattle.logbook.specs.Pages.{Book}
use Rattle.pit_share.specs.declared.new_session.TheConstants.{PLANNERS_MAX}
use Rattle.pit_share.specs.declared.error.OpenError.{OpenError}
use Rattle.pit_share.specs.declared.error.OpenError.TheVariants as error

-- what no session has named yet: the ledger that is to count the entries, and the book that is to keep the list of entries
pub record Unnamed : Type 0 where
  pub ledger : ℕ
  pub book : Book

abbrev pub IsPlannerCount : ℕ → Type 0
IsPlannerCount planners = (1 ≤ planners) × (planners ≤ PLANNERS_MAX)

-- a seat for each planner, in order
pub record AreSeats (planners : ℕ) (seats : List ℕ) : Type 0 where
  pub many : length seats ≡ planners
  pub each : (k : ℕ) → k < planners → slice_index seats k ≡ k + 1

-- the number of planners is looked at first
abbrev pub IsOpenError : ℕ → OpenError → Type 0
IsOpenError planners error.PlannerCount = IsPlannerCount planners → ⊥
IsOpenError planners error.NoPlace = IsPlannerCount planners
IsOpenError planners error.NoMemory = IsPlannerCount planners
