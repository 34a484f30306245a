-- A pit in numbers.
use Rattle.std.specs.Prelude.{ℕ, ℤ, pos, ◌==◌, not, Bool, if◌then◌else◌, List, length, Option, Some, None, is_some}
use Rattle.std.specs.List.{filter, filter_map, range_with_len, count_by, sum_by, list_any}
use Rattle.std.specs.Option.{option_map}
use Rattle.std.specs.Ordering.{int_eq}
use Rattle.std.specs.Set.{distinct_count}
use Rattle.pit_model.specs.Pit.{Pit, profit_of, coefs_of, preds_of, lower_of, upper_of, place_of}
use Rattle.pit_text.specs.Model.{last_of}

abbrev pub isnt_zero : ℤ → Bool
isnt_zero amount = not (int_eq amount (pos 0))

-- ---- profits and coefficients

abbrev pub has_profit : Pit → ℕ → Bool
has_profit pit b = isnt_zero (profit_of pit b)

-- how many blocks have a profit other than 0
abbrev pub profit_count : Pit → ℕ
profit_count pit = count_by (has_profit pit) (range_with_len 0 pit.blocks)

abbrev pub coefs_at : Pit → ℕ → ℕ
coefs_at pit b = count_by (λ pair. isnt_zero pair.1) (coefs_of pit b)

-- how many pairs of a block and a resource have a coefficient other than 0
abbrev pub coef_count : Pit → ℕ
coef_count pit = sum_by (coefs_at pit) (range_with_len 0 pit.blocks)

-- ---- limits

abbrev pub has_lower : Pit → ℕ → ℕ → Bool
has_lower pit r t = is_some (lower_of pit r t)

-- in how many periods a resource has a lower limit
abbrev pub lowers_of : Pit → ℕ → ℕ
lowers_of pit r = count_by (has_lower pit r) (range_with_len 0 pit.periods)

-- how many pairs of a resource and a period have one
abbrev pub lower_count : Pit → ℕ
lower_count pit = sum_by (lowers_of pit) (range_with_len 0 pit.resources)

abbrev pub has_upper : Pit → ℕ → ℕ → Bool
has_upper pit r t = is_some (upper_of pit r t)

-- in how many periods a resource has an upper limit
abbrev pub uppers_of : Pit → ℕ → ℕ
uppers_of pit r = count_by (has_upper pit r) (range_with_len 0 pit.periods)

-- how many pairs of a resource and a period have one
abbrev pub upper_count : Pit → ℕ
upper_count pit = sum_by (uppers_of pit) (range_with_len 0 pit.resources)

-- it has an upper limit in some period
abbrev pub is_limited : Pit → ℕ → Bool
is_limited pit r = list_any (has_upper pit r) (range_with_len 0 pit.periods)

abbrev pub is_unlimited : Pit → ℕ → Bool
is_unlimited pit r = not (is_limited pit r)

-- the resources that have an upper limit in no period, rising
abbrev pub unlimited_of : Pit → List ℕ
unlimited_of pit = filter (is_unlimited pit) (range_with_len 0 pit.resources)

-- ---- precedences

abbrev pub preds_at : Pit → ℕ → ℕ
preds_at pit b = length (preds_of pit b)

-- how many pairs there are of a block and its predecessor
abbrev pub pair_count : Pit → ℕ
pair_count pit = sum_by (preds_at pit) (range_with_len 0 pit.blocks)

-- it has no predecessor
abbrev pub is_root : Pit → ℕ → Bool
is_root pit b = preds_at pit b == 0

-- how many blocks have none
abbrev pub root_count : Pit → ℕ
root_count pit = count_by (is_root pit) (range_with_len 0 pit.blocks)

abbrev pub has_preds : Pit → ℕ → Bool
has_preds pit b = not (is_root pit b)

-- the last of the blocks that have a predecessor
abbrev pub highest_of : Pit → Option ℕ
highest_of pit = last_of (filter (has_preds pit) (range_with_len 0 pit.blocks))

-- ---- places

abbrev pub has_place : Pit → ℕ → Bool
has_place pit b = is_some (place_of pit b)

-- how many blocks have a place
abbrev pub place_count : Pit → ℕ
place_count pit = count_by (has_place pit) (range_with_len 0 pit.blocks)

abbrev pub height_of : Pit → ℕ → Option ℤ
height_of pit b = option_map (λ place. place.2) (place_of pit b)

-- the heights of the blocks that have a place, in millionths
abbrev pub heights_in : Pit → ℕ → List ℤ
heights_in pit n = filter_map (height_of pit) (range_with_len 0 n)

-- how many heights there are, each counted once
abbrev pub bench_count : Pit → ℕ
bench_count pit = distinct_count int_eq (heights_in pit pit.blocks)

-- the same, where places were read
abbrev pub benches_if : Bool → Pit → Option ℕ
benches_if with_places pit = if with_places then Some (bench_count pit) else None
