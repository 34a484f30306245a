-- Numbers that a text begins with.
use Rattle.std.specs.Prelude.{◌≡◌, ℕ, ℤ, ◌==◌, ◌||◌, Bool, true, List, ◌∷◌, ◌++◌, Ok}
use Rattle.std.specs.List.{list_all}
use Rattle.std.specs.Char.{is_ascii_digit}
use Rattle.pit_num.specs.Decimal.{whole_of, micro_of}

-- a text begins with the digits of this number and with this byte, and this is behind them
pub record IsWholeThen (text : List ℕ) (n end : ℕ) (rest : List ℕ) : Type 0 where
  pub digits : List ℕ
  pub whole : text ≡ digits ++ end ∷ rest
  pub number : whole_of digits ≡ Ok n

-- a digit, a minus or a point
abbrev pub is_value : ℕ → Bool
is_value b = is_ascii_digit b || b == 45 || b == 46

-- a text begins with a field of such bytes, which is this number, and with this byte, and this is behind them
pub record IsMicroThen (text : List ℕ) (value : ℤ) (end : ℕ) (rest : List ℕ) : Type 0 where
  pub field : List ℕ
  pub whole : text ≡ field ++ end ∷ rest
  pub bytes : list_all is_value field ≡ true
  pub number : micro_of field ≡ Ok value
