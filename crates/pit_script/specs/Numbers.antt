-- Numbers in the fields of a script.
use Rattle.std.specs.Prelude.{ℕ, Bool, false, ◌==◌, nat_lt, if◌then◌else◌, List, [], ◌∷◌, Option, Some, None, Result, Ok, Err}
use Rattle.pit_num.specs.Decimal.{whole_of, after_sign, is_negative}
use Rattle.pit_num.specs.declared.parse.NumError.{NumError}
use Rattle.pit_num.specs.declared.parse.NumError.TheVariants.{TooLarge}
use Rattle.pit_text.specs.Stands.{◌>>=◌}
use Rattle.pit_text.specs.Numbers.{field_as}
use Rattle.pit_script.specs.declared.step.TheConstants.{SHIFT_MAX}
use Rattle.pit_script.specs.declared.error.ScriptFault.{ScriptFault}
use Rattle.pit_script.specs.declared.error.ScriptFault.TheVariants.{NotAscii, BadNumber}

-- what a field is read as, or what is wrong with it
abbrev pub read_as : {X : Type 0} → (List ℕ → Result X NumError) → List ℕ → Result X ScriptFault
read_as number_of field = field_as NotAscii BadNumber number_of field

-- whether it goes back, and by how many periods
abbrev pub with_direction : Bool → ℕ → Result (Bool × ℕ) NumError
with_direction is_back by = if nat_lt SHIFT_MAX by then Err TooLarge else Ok (is_back, by)

-- a whole number that is small enough, behind an optional sign
unfoldable pub shift_of : List ℕ → Result (Bool × ℕ) NumError
shift_of text = whole_of (after_sign text) >>= with_direction (is_negative text)

abbrev pub is_dash : List ℕ → Bool
is_dash [] = false
is_dash (byte ∷ []) = byte == 45
is_dash (byte ∷ next ∷ more) = false

abbrev pub some_period : ℕ → Result (Option ℕ) NumError
some_period period = Ok (Some period)

-- none where it is a dash, else a whole number
unfoldable pub period_or_none_of : List ℕ → Result (Option ℕ) NumError
period_or_none_of text = if is_dash text then Ok None else whole_of text >>= some_period
