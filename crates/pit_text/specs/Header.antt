-- The values of the keys of a model's header.
use Rattle.std.specs.Prelude.{ℕ, ℤ, pos, negsuc, ◌==◌, ◌&&◌, nat_le, if◌then◌else◌, List, Result, Ok, Err, codes, Bool}
use Rattle.std.specs.Str.{bytes_eq, str_to_ascii_lowercase}
use Rattle.pit_num.specs.declared.limits.TheConstants.{PERIODS_MAX, RATE_MAX}
use Rattle.pit_model.specs.declared.counts.TheConstants.{BLOCKS_MAX, RESOURCES_MAX}
use Rattle.pit_text.specs.declared.error.Fault.{Fault}
use Rattle.pit_text.specs.declared.error.Fault.TheVariants.{BadHeader, NotCpit, Unsupported}
use Rattle.pit_text.specs.declared.model.key.Key.{Key}
use Rattle.pit_text.specs.declared.model.key.Key.TheVariants.{Kind, Blocks, Periods, Resources, Rate, Destinations, Generals}
use Rattle.pit_text.specs.Numbers.{is_ascii, whole_field, decimal_field}

-- a number in a range
abbrev pub number_in_range : ℕ → ℕ → Key → Result ℕ Fault → Result ℕ Fault
number_in_range low high key (Ok n) = if nat_le low n && nat_le n high then Ok n else Err (BadHeader key)
number_in_range low high key (Err e) = Err (BadHeader key)

-- the one number that is supported
abbrev pub supported_number : ℕ → Key → Result ℕ Fault → Result ℕ Fault
supported_number wanted key (Ok n) = if n == wanted then Ok n else Err (Unsupported key)
supported_number wanted key (Err e) = Err (BadHeader key)

-- `CPIT`, in any ASCII case
abbrev pub is_cpit : List ℕ → Bool
is_cpit value = bytes_eq (str_to_ascii_lowercase value) (codes "cpit")

abbrev pub kind_of : List ℕ → Result ℕ Fault
kind_of value =
    if is_ascii value then (if is_cpit value then Ok 0 else Err NotCpit)
    else Err (BadHeader Kind)

-- a rate from 0 to its limit, in millionths
abbrev pub rate_of : Result ℤ Fault → Result ℕ Fault
rate_of (Ok (pos n)) = if nat_le n RATE_MAX then Ok n else Err (BadHeader Rate)
rate_of (Ok (negsuc n)) = Err (BadHeader Rate)
rate_of (Err e) = Err (BadHeader Rate)

-- the number that a value gives a key; a kind has none, so 0 stands for it
unfoldable pub value_of_key : Key → List ℕ → Result ℕ Fault
value_of_key Kind value = kind_of value
value_of_key Blocks value = number_in_range 1 BLOCKS_MAX Blocks (whole_field value)
value_of_key Periods value = number_in_range 1 PERIODS_MAX Periods (whole_field value)
value_of_key Resources value = number_in_range 0 RESOURCES_MAX Resources (whole_field value)
value_of_key Rate value = rate_of (decimal_field value)
value_of_key Destinations value = supported_number 1 Destinations (whole_field value)
value_of_key Generals value = supported_number 0 Generals (whole_field value)
