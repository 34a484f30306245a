-- An instance of MineLib's problem CPIT (2013): what is known of a pit.
use Rattle.std.specs.Prelude.{◌≡◌, ◌≢◌, ℕ, ℤ, pos, ◌<◌, ◌≤◌, ◌+◌, ◌*◌, ◌==◌, ◌&&◌, not, nat_lt, Bool, true, false, List, [], ◌∷◌, map, length, replicate, slice_set, slice_index_or, Option, Some, None, unwrap_or, if◌then◌else◌, int_lt, FitsSigned}
use Rattle.std.specs.Int.{int_min, int_max, w64}
use Rattle.std.specs.List.{All, filter, list_any, range_with_len}
use Rattle.std.specs.List.Sorted.{IsStrictlyIncreasing}
use Rattle.pit_num.specs.Factor.{factor}
use Rattle.pit_num.specs.Least.{ComesBefore, IsLeastOf}
use Rattle.pit_num.specs.declared.limits.TheConstants.{PERIODS_MAX, RATE_MAX}
use Rattle.pit_model.specs.declared.counts.TheConstants.{BLOCKS_MAX, RESOURCES_MAX}

-- the facts of a pit; each list that is by block has one item for each block
pub record Pit : Type 0 where
  pub blocks : ℕ
  pub periods : ℕ
  pub resources : ℕ
  -- in millionths
  pub rate : ℕ
  -- by block, in millionths; none where no profit was set
  pub profits : List (Option ℤ)
  -- by block: the pairs of a resource and a coefficient, in millionths, that were set, rising by resource
  pub coefs : List (List (ℕ × ℤ))
  -- by block: the blocks that have to be mined no later, rising and without the block; none where they were not set
  pub preds : List (Option (List ℕ))
  -- by period, and in it by resource: the greatest lower and the least upper bound that were given, in millionths
  pub bounds : List (Option ℤ × Option ℤ)
  -- by block, in millionths
  pub places : List (Option (ℤ × ℤ × ℤ))

-- ---- what is read of it

abbrev pub profit_of : Pit → ℕ → ℤ
profit_of pit block = unwrap_or (slice_index_or pit.profits block None) (pos 0)

-- in units of 10^-12
abbrev pub factor_of : Pit → ℕ → ℤ
factor_of pit period = pos (factor pit.rate period)

abbrev pub coefs_of : Pit → ℕ → List (ℕ × ℤ)
coefs_of pit block = slice_index_or pit.coefs block []

abbrev pub preds_in : List (Option (List ℕ)) → ℕ → List ℕ
preds_in preds block = unwrap_or (slice_index_or preds block None) []

abbrev pub preds_of : Pit → ℕ → List ℕ
preds_of pit block = preds_in pit.preds block

-- the blocks that have this one among their predecessors, rising
unfoldable pub succs_in : List (Option (List ℕ)) → ℕ → List ℕ
succs_in preds block = filter (λ later. list_any (λ a. a == block) (preds_in preds later)) (range_with_len 0 (length preds))

abbrev pub succs_of : Pit → ℕ → List ℕ
succs_of pit block = succs_in pit.preds block

-- the cell of a resource in a period: by period, and in it by resource
abbrev pub cell_of : Pit → ℕ → ℕ → ℕ
cell_of pit resource period = period * pit.resources + resource

abbrev pub bounds_of : Pit → ℕ → ℕ → Option ℤ × Option ℤ
bounds_of pit resource period = slice_index_or pit.bounds (cell_of pit resource period) (None, None)

abbrev pub lower_of : Pit → ℕ → ℕ → Option ℤ
lower_of pit resource period = (bounds_of pit resource period).0

abbrev pub upper_of : Pit → ℕ → ℕ → Option ℤ
upper_of pit resource period = (bounds_of pit resource period).1

abbrev pub place_of : Pit → ℕ → Option (ℤ × ℤ × ℤ)
place_of pit block = slice_index_or pit.places block None

-- no load that isn't negative meets this bound
abbrev pub is_below_zero : Option ℤ → Bool
is_below_zero None = false
is_below_zero (Some bound) = int_lt bound (pos 0)

-- a period and a resource, both in range, whose upper bound is below zero
abbrev pub IsUnmeetable : Pit → ℕ × ℕ → Type 0
IsUnmeetable pit pair = (pair.0 < pit.periods) × (pair.1 < pit.resources) × (is_below_zero (upper_of pit pair.1 pair.0) ≡ true)

-- the resource and the period of the least such pair
abbrev pub IsFirstUnmeetable : Pit → ℕ × ℕ → Type 0
IsFirstUnmeetable pit found = IsLeastOf ComesBefore (IsUnmeetable pit) (found.1, found.0)

abbrev pub IsMeetable : Pit → Type 0
IsMeetable pit = (resource period : ℕ) → resource < pit.resources → period < pit.periods → is_below_zero (upper_of pit resource period) ≡ false

-- ---- what is added to it

-- nothing is set yet
abbrev pub empty_pit : ℕ → ℕ → ℕ → ℕ → Pit
empty_pit blocks periods resources rate =
    record {
      blocks = blocks;
      periods = periods;
      resources = resources;
      rate = rate;
      profits = replicate blocks None;
      coefs = replicate blocks [];
      preds = replicate blocks None;
      bounds = replicate (periods * resources) (None, None);
      places = replicate blocks None;
    }

abbrev pub with_profit : Pit → ℕ → ℤ → Pit
with_profit pit block value = record pit { profits = slice_set pit.profits block (Some value) }

-- before the first pair of a greater resource
abbrev pub with_pair : List (ℕ × ℤ) → ℕ × ℤ → List (ℕ × ℤ)
with_pair [] pair = pair ∷ []
with_pair (first ∷ more) pair = if nat_lt pair.0 first.0 then pair ∷ first ∷ more else first ∷ with_pair more pair

abbrev pub with_coef_in : List (List (ℕ × ℤ)) → ℕ → ℕ × ℤ → List (List (ℕ × ℤ))
with_coef_in coefs block pair = slice_set coefs block (with_pair (slice_index_or coefs block []) pair)

abbrev pub with_coef : Pit → ℕ → ℕ → ℤ → Pit
with_coef pit block resource value = record pit { coefs = with_coef_in pit.coefs block (resource, value) }

-- the listed blocks other than this one, rising, each once
unfoldable pub preds_from : ℕ → ℕ → List ℕ → List ℕ
preds_from blocks block listed = filter (λ a. not (a == block) && list_any (λ b. b == a) listed) (range_with_len 0 blocks)

abbrev pub with_preds_in : List (Option (List ℕ)) → ℕ → List ℕ → List (Option (List ℕ))
with_preds_in preds block listed = slice_set preds block (Some (preds_from (length preds) block listed))

abbrev pub with_preds : Pit → ℕ → List ℕ → Pit
with_preds pit block listed = record pit { preds = with_preds_in pit.preds block listed }

-- of two bounds the one that is picked, where none is no bound
abbrev pub tighter_bound : (ℤ → ℤ → ℤ) → Option ℤ → Option ℤ → Option ℤ
tighter_bound pick None other = other
tighter_bound pick (Some bound) None = Some bound
tighter_bound pick (Some bound) (Some other) = Some (pick bound other)

-- the greater of the lower bounds, and the lesser of the upper bounds
abbrev pub tighter_bounds : Option ℤ × Option ℤ → Option ℤ → Option ℤ → Option ℤ × Option ℤ
tighter_bounds bounds lo hi = (tighter_bound int_max bounds.0 lo, tighter_bound int_min bounds.1 hi)

abbrev pub with_limit : Pit → ℕ → ℕ → Option ℤ → Option ℤ → Pit
with_limit pit resource period lo hi =
    record pit { bounds = slice_set pit.bounds (cell_of pit resource period) (tighter_bounds (bounds_of pit resource period) lo hi) }

abbrev pub with_place : Pit → ℕ → ℤ × ℤ × ℤ → Pit
with_place pit block place = record pit { places = slice_set pit.places block (Some place) }

-- ---- what holds of each pit

-- rising by resource, each in range, and each coefficient of 64 bits
pub record AreCoefs (resources : ℕ) (pairs : List (ℕ × ℤ)) : Type 0 where
  pub rising : IsStrictlyIncreasing (map (λ pair. pair.0) pairs)
  pub in_range : All (λ pair. pair.0 < resources) pairs
  pub small : All (λ pair. FitsSigned w64 pair.1) pairs

-- rising, each in range, and not the block itself
pub record ArePreds (blocks block : ℕ) (preds : List ℕ) : Type 0 where
  pub rising : IsStrictlyIncreasing preds
  pub in_range : All (λ a. a < blocks) preds
  pub others : All (λ a. a ≢ block) preds

-- the limits that the numbers of a pit keep
pub record IsSound (pit : Pit) : Type 0 where
  pub some_block : 1 ≤ pit.blocks
  pub few_blocks : pit.blocks ≤ BLOCKS_MAX
  pub some_period : 1 ≤ pit.periods
  pub few_periods : pit.periods ≤ PERIODS_MAX
  pub few_resources : pit.resources ≤ RESOURCES_MAX
  pub low_rate : pit.rate ≤ RATE_MAX
  pub each_profit : length pit.profits ≡ pit.blocks
  pub each_coefs : length pit.coefs ≡ pit.blocks
  pub each_preds : length pit.preds ≡ pit.blocks
  pub each_bound : length pit.bounds ≡ pit.periods * pit.resources
  pub each_place : length pit.places ≡ pit.blocks
  pub profits : (block : ℕ) → FitsSigned w64 (profit_of pit block)
  pub coefs : (block : ℕ) → AreCoefs pit.resources (coefs_of pit block)
  pub preds : (block : ℕ) → ArePreds pit.blocks block (preds_of pit block)
