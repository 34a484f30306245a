-- Bounds on a load, in the fields of a line.
use Rattle.std.specs.Prelude.{ℕ, ℤ, ◌||◌, Bool, if◌then◌else◌, List, Result, Ok, Err, Option, Some, None, codes}
use Rattle.std.specs.Str.{bytes_eq, str_to_ascii_lowercase}
use Rattle.pit_num.specs.Decimal.{micro_of}
use Rattle.pit_num.specs.declared.parse.NumError.{NumError}
use Rattle.pit_text.specs.declared.error.Fault.{Fault}
use Rattle.pit_text.specs.declared.error.Fault.TheVariants.{NotAscii, BadNumber}
use Rattle.pit_text.specs.Numbers.{field_as}

-- no upper bound, in any ASCII case
abbrev pub is_infinite : List ℕ → Bool
is_infinite text =
    bytes_eq (str_to_ascii_lowercase text) (codes "inf")
    || bytes_eq (str_to_ascii_lowercase text) (codes "+inf")
    || bytes_eq (str_to_ascii_lowercase text) (codes "infinity")
    || bytes_eq (str_to_ascii_lowercase text) (codes "+infinity")

-- no lower bound
abbrev pub is_negative_infinite : List ℕ → Bool
is_negative_infinite text =
    bytes_eq (str_to_ascii_lowercase text) (codes "-inf")
    || bytes_eq (str_to_ascii_lowercase text) (codes "-infinity")

abbrev pub some_bound : Result ℤ NumError → Result (Option ℤ) NumError
some_bound (Ok bound) = Ok (Some bound)
some_bound (Err e) = Err e

-- a bound in an upper place, in millionths
unfoldable pub upper_bound_of : List ℕ → Result (Option ℤ) NumError
upper_bound_of text = if is_infinite text then Ok None else some_bound (micro_of text)

-- a bound in a lower place
unfoldable pub lower_bound_of : List ℕ → Result (Option ℤ) NumError
lower_bound_of text = if is_negative_infinite text then Ok None else some_bound (micro_of text)

unfoldable pub upper_field : List ℕ → Result (Option ℤ) Fault
upper_field field = field_as NotAscii BadNumber upper_bound_of field

unfoldable pub lower_field : List ℕ → Result (Option ℤ) Fault
lower_field field = field_as NotAscii BadNumber lower_bound_of field
