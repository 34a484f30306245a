-- The first line of a solution, by which `show` says of which history it is.
use Rattle.std.specs.Prelude.{◌≡◌, ℕ, ◌≤◌, ◌==◌, ◌&&◌, ◌||◌, nat_le, Bool, List, ◌++◌, length, Option, Some, None, codes, decimal}
use Rattle.std.specs.List.{AllPass, before_first}
use Rattle.pit_text.specs.Cutting.{without_return}
use Rattle.pit_plan.specs.declared.plan.TheConstants.{COMMITS_MAX}

abbrev pub is_feed : ℕ → Bool
is_feed b = b == 10

-- without a carriage return at its end
abbrev pub first_line : List ℕ → List ℕ
first_line text = without_return (before_first is_feed text)

-- `0` to `9` and `a` to `f`
abbrev pub is_hex : ℕ → Bool
is_hex b = (nat_le 48 b && nat_le b 57) || (nat_le 97 b && nat_le b 102)

-- 64 of these
abbrev pub AreSumDigits : List ℕ → Type 0
AreSumDigits digits = (length digits ≡ 64) × AllPass is_hex digits

-- `% commits N sum S`
abbrev pub mark_line : ℕ × List ℕ → List ℕ
mark_line mark = codes "% commits " ++ (decimal mark.0 ++ (codes " sum " ++ mark.1))

-- a number of commits and the digits of a sum, as `show` writes them
pub record IsMark (text : List ℕ) (mark : ℕ × List ℕ) : Type 0 where
  pub line : first_line text ≡ mark_line mark
  pub few : mark.0 ≤ COMMITS_MAX
  pub digits : AreSumDigits mark.1

-- the first line is that of a history, or isn't
abbrev pub IsMarkOf : List ℕ → Option (ℕ × List ℕ) → Type 0
IsMarkOf text (Some mark) = IsMark text mark
IsMarkOf text None = (mark : ℕ × List ℕ) → IsMark text mark → ⊥
