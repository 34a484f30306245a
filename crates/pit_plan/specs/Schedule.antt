-- Schedules: what a list of commits leaves, and what that loads and earns; and the limits that are then in force.
use Rattle.std.specs.Prelude.{ℕ, ◌+◌, ℤ, pos, ◌*ℤ◌, Bool, true, false, nat_eq, nat_le, int_le, List, [], ◌∷◌, fold, Option, Some, None, unwrap_or, is_some, slice_index_or, if◌then◌else◌, Contains}
use Rattle.std.specs.Map.{lookup}
use Rattle.pit_model.specs.Fitting.{pair_eq, writes_of}
use Rattle.pit_model.specs.Pit.{Pit, profit_of, factor_of, coefs_of, preds_of, upper_of}
use Rattle.pit_plan.specs.Sums.{total}

-- blocks, each with a period or none
abbrev pub Writes : Type 0
Writes = List (ℕ × Option ℕ)

-- resources in periods, each with an upper limit or none
abbrev pub Revisions : Type 0
Revisions = List ((ℕ × ℕ) × Option ℤ)

-- A commit gives blocks a period or none, and resources in periods an upper limit or none. It names each block, and each resource in a
-- period, at most once.
pub record Commit : Type 0 where
  pub writes : Writes
  pub revises : Revisions

-- the commit of a schedule, which revises no limit
abbrev pub commit_of_schedule : List (ℕ × ℕ) → Commit
commit_of_schedule schedule = record { writes = writes_of schedule; revises = [] }

-- what a commit says of a block, if it names it
abbrev pub write_of : Commit → ℕ → Option (Option ℕ)
write_of commit b = lookup (nat_eq b) commit.writes

-- what a commit says of the limit of a resource in a period, if it names that
abbrev pub revision_of : Commit → ℕ → ℕ → Option (Option ℤ)
revision_of commit r t = lookup (pair_eq (r, t)) commit.revises

-- what the last commit that names the block says, and none if no commit names it
unfoldable pub held_period : List Commit → ℕ → Option ℕ
held_period commits b = fold (λ before commit. unwrap_or (write_of commit b) before) None commits

-- the number of the last commit that names the block, where n commits and a last one were before
abbrev pub last_number_after : ℕ → ℕ → List Commit → ℕ → ℕ
last_number_after n found [] b = found
last_number_after n found (commit ∷ commits) b = last_number_after (n + 1) (if is_some (write_of commit b) then n + 1 else found) commits b

-- its number, counted from 1, and 0 if no commit names the block
unfoldable pub last_number : List Commit → ℕ → ℕ
last_number commits b = last_number_after 0 0 commits b

-- the period of a block, by a list that has a period or none for each
abbrev pub by_block : List (Option ℕ) → ℕ → Option ℕ
by_block periods b = slice_index_or periods b None

-- how much of a resource the mining of a block takes, in millionths; a pair that was not set counts as 0
abbrev pub coef_in : List (ℕ × ℤ) → ℕ → ℤ
coef_in pairs r = unwrap_or (lookup (nat_eq r) pairs) (pos 0)

abbrev pub coef_of : Pit → ℕ → ℕ → ℤ
coef_of pit b r = coef_in (coefs_of pit b) r

abbrev pub is_in : Option ℕ → ℕ → Bool
is_in None t = false
is_in (Some s) t = nat_eq s t

-- what a block adds to a load
abbrev pub share : Pit → (ℕ → Option ℕ) → ℕ → ℕ → ℕ → ℤ
share pit schedule r t b = if is_in (schedule b) t then coef_of pit b r else pos 0

-- the coefficients of the blocks that the schedule has in the period, added up, in millionths
abbrev pub load_of : Pit → (ℕ → Option ℕ) → ℕ → ℕ → ℤ
load_of pit schedule r t = total (share pit schedule r t) pit.blocks

-- what a block earns in a period
abbrev pub earned_in : Pit → ℕ → Option ℕ → ℤ
earned_in pit b None = pos 0
earned_in pit b (Some t) = profit_of pit b *ℤ factor_of pit t

-- the discounted profits, added up, in units of 10^-18
abbrev pub value_of : Pit → (ℕ → Option ℕ) → ℤ
value_of pit schedule = total (λ b. earned_in pit b (schedule b)) pit.blocks

-- the upper limit in force after the commits: what the last one that revises it says, and the pit's if no commit revises it
unfoldable pub limit_of : Pit → List Commit → ℕ → ℕ → Option ℤ
limit_of pit commits r t = fold (λ before commit. unwrap_or (revision_of commit r t) before) (upper_of pit r t) commits

-- b is a block that has a among its predecessors
abbrev pub IsPred : Pit → ℕ → ℕ → Type 0
IsPred pit b a = Contains (preds_of pit b) a

-- a block in the period `later` may stand after one in `before`
abbrev pub in_order : Option ℕ → Option ℕ → Bool
in_order None before = true
in_order (Some t) None = false
in_order (Some t) (Some s) = nat_le s t

abbrev pub is_within : ℤ → Option ℤ → Bool
is_within load None = true
is_within load (Some limit) = int_le load limit
