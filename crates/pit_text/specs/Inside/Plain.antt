-- Plain lines: fields of digits, the last perhaps with points and minus signs; one blank between two of them, and a line feed behind the last.
use Rattle.std.specs.Prelude.{◌≡◌, ℕ, ◌<◌, ◌==◌, ◌||◌, Bool, true, false, List, [], ◌∷◌, ◌++◌, length, Ok}
use Rattle.std.specs.List.{list_all}
use Rattle.std.specs.Char.{is_ascii_digit}
use Rattle.pit_num.specs.Front.{is_value}
use Rattle.pit_text.specs.Cutting.{lines_of, fields_of, is_comment, is_last}
use Rattle.pit_text.specs.Numbers.{whole_field}
use Rattle.pit_text.specs.Precedence.{wholes_of, preds_line}

-- a byte of a number, or a blank
abbrev pub is_plain : ℕ → Bool
is_plain b = is_value b || b == 32

abbrev pub DigitFirst : List ℕ → Type 0
DigitFirst [] = ⊥
DigitFirst (b ∷ bs) = is_ascii_digit b ≡ true

-- a text begins with these fields of digits, each with a blank behind it, and this is behind them
pub record AreFieldsThen (text : List ℕ) (fields : List (List ℕ)) (rest : List ℕ) : Type 0 where
  pub front : List ℕ
  pub whole : text ≡ front ++ rest
  pub plain : list_all is_plain front ≡ true
  pub cut : (line : List ℕ) → fields_of (front ++ line) ≡ fields ++ fields_of line
  pub begins : (line : List ℕ) → DigitFirst line → DigitFirst (front ++ line)
  pub inside : (line : List ℕ) → 0 < length fields → DigitFirst (front ++ line)

-- a text begins with a line of these fields, which is read, and this is behind its line feed
pub record IsLineThen (text : List ℕ) (fields : List (List ℕ)) (rest : List ℕ) : Type 0 where
  pub line : List ℕ
  pub whole : text ≡ line ++ 10 ∷ rest
  pub lines : lines_of text ≡ line ∷ lines_of rest
  pub cut : fields_of line ≡ fields
  pub goes_on : is_last line ≡ false
  pub says : is_comment line ≡ false

-- behind fields of a line, a text begins with so many more, of these whole numbers, which end the line; and this is behind its line feed
abbrev pub IsListThen : List ℕ → ℕ → List ℕ → List ℕ → Type 0
IsListThen text count numbers rest =
    (whole : List ℕ) → (fields : List (List ℕ)) → AreFieldsThen whole fields text
    → (more : List (List ℕ)) × IsLineThen whole (fields ++ more) rest × (length more ≡ count) × (wholes_of more ≡ Ok numbers)

-- a text begins with a line of precedences that says this, and this is behind its line feed
abbrev pub SaysPreds : List ℕ → ℕ → List ℕ → List ℕ → Type 0
SaysPreds text block preds rest =
    (field : List ℕ) × (fields : List (List ℕ)) × IsLineThen text (field ∷ fields) rest × (preds_line (field ∷ fields) ≡ Ok (block, preds))

-- two fields, of these whole numbers
pub record ArePair (fields : List (List ℕ)) (n m : ℕ) : Type 0 where
  pub first : List ℕ
  pub second : List ℕ
  pub two : fields ≡ first ∷ second ∷ []
  pub one : whole_field first ≡ Ok n
  pub other : whole_field second ≡ Ok m
