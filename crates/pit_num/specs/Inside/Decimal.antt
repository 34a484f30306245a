-- Steps of reading the text of a number.
use Rattle.std.specs.Prelude.{◌≡◌, ℕ, ◌≤◌, nat_lt, if◌then◌else◌, Bool, true, List, [], ◌∷◌, ◌++◌, length, Option, Some, None}
use Rattle.std.specs.List.{list_all, prefix_len}
use Rattle.std.specs.Char.{is_ascii_digit}
use Rattle.std.specs.Str.Parse.{digits_value}
use Rattle.pit_num.specs.declared.limits.TheConstants.{MICRO_LIMIT}
use Rattle.pit_num.specs.Decimal.{are_digits, is_point}
use Rattle.pit_num.specs.Front.{is_value}

-- what follows a point that stands in front, or all where none does
abbrev pub after_front_point : List ℕ → List ℕ
after_front_point [] = []
after_front_point (b ∷ bs) = if is_point b then bs else b ∷ bs

-- a magnitude that is small enough
abbrev pub below_limit : ℕ → Option ℕ
below_limit n = if nat_lt n MICRO_LIMIT then Some n else None

-- a text, behind a minus sign where it is negative
abbrev pub with_minus : Bool → List ℕ → List ℕ
with_minus negative text = if negative then 45 ∷ text else text

-- a text begins with a point and the few digits of this fraction, or without a point; and this is behind them
pub record IsFractionThen (text : List ℕ) (fraction places : ℕ) (rest : List ℕ) : Type 0 where
  pub tail : List ℕ
  pub whole : text ≡ tail ++ rest
  pub stops : prefix_len is_ascii_digit tail ≡ 0
  pub digits : are_digits (after_front_point tail) ≡ true
  pub bytes : list_all is_value tail ≡ true
  pub value : fraction ≡ digits_value 10 (after_front_point tail)
  pub count : places ≡ length (after_front_point tail)
  pub few : places ≤ 6
