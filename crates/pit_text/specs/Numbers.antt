-- Numbers in the fields of a line.
use Rattle.std.specs.Prelude.{ℕ, ℤ, nat_lt, Bool, if◌then◌else◌, List, Result, Ok, Err}
use Rattle.std.specs.List.{list_all}
use Rattle.pit_num.specs.Decimal.{whole_of, micro_of}
use Rattle.pit_num.specs.declared.parse.NumError.{NumError}
use Rattle.pit_text.specs.declared.error.Fault.{Fault}
use Rattle.pit_text.specs.declared.error.Fault.TheVariants.{NotAscii, BadNumber}

-- no byte above 127
abbrev pub is_ascii : List ℕ → Bool
is_ascii field = list_all (λ b. nat_lt b 128) field

-- a number, or what a refusal of it makes of its field
abbrev pub or_bad : {X C : Type 0} → (NumError → C) → Result X NumError → Result X C
or_bad bad (Ok n) = Ok n
or_bad bad (Err e) = Err (bad e)

-- what a field is read as, or what is wrong with it: it isn't ASCII, or it is no such number
abbrev pub field_as : {X C : Type 0} → C → (NumError → C) → (List ℕ → Result X NumError) → List ℕ → Result X C
field_as not_ascii bad number_of field = if is_ascii field then or_bad bad (number_of field) else Err not_ascii

unfoldable pub whole_field : List ℕ → Result ℕ Fault
whole_field field = field_as NotAscii BadNumber whole_of field

-- in millionths
unfoldable pub decimal_field : List ℕ → Result ℤ Fault
decimal_field field = field_as NotAscii BadNumber micro_of field
