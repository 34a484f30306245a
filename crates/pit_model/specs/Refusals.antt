-- Which refusal is due to a fact, by what is known of the pit: the first that applies.
use Rattle.std.specs.Prelude.{ℕ, ℤ, ◌==◌, Bool, false, nat_le, List, Option, Some, None, is_some, slice_index_or, if◌then◌else◌, int_lt}
use Rattle.std.specs.List.{list_any}
use Rattle.pit_model.specs.Pit.{Pit, coefs_of}
use Rattle.pit_model.specs.declared.error.BuildError.{BuildError}
use Rattle.pit_model.specs.declared.error.BuildError.TheVariants.{BlockRange, ResourceRange, PeriodRange, Repeated, Interval}

abbrev pub profit_refusal : Pit → ℕ → Option BuildError
profit_refusal pit block =
    if nat_le pit.blocks block then Some BlockRange
    else if is_some (slice_index_or pit.profits block None) then Some Repeated
    else None

abbrev pub coef_refusal : Pit → ℕ → ℕ → Option BuildError
coef_refusal pit block resource =
    if nat_le pit.blocks block then Some BlockRange
    else if nat_le pit.resources resource then Some ResourceRange
    else if list_any (λ pair. pair.0 == resource) (coefs_of pit block) then Some Repeated
    else None

abbrev pub preds_refusal : Pit → ℕ → List ℕ → Option BuildError
preds_refusal pit block listed =
    if nat_le pit.blocks block then Some BlockRange
    else if list_any (λ a. nat_le pit.blocks a) listed then Some BlockRange
    else if is_some (slice_index_or pit.preds block None) then Some Repeated
    else None

-- nothing is at least lo and at most hi
abbrev pub is_empty_interval : Option ℤ → Option ℤ → Bool
is_empty_interval (Some lo) (Some hi) = int_lt hi lo
is_empty_interval (Some lo) None = false
is_empty_interval None hi = false

abbrev pub limit_refusal : Pit → ℕ → ℕ → Option ℤ → Option ℤ → Option BuildError
limit_refusal pit resource period lo hi =
    if nat_le pit.resources resource then Some ResourceRange
    else if nat_le pit.periods period then Some PeriodRange
    else if is_empty_interval lo hi then Some Interval
    else None

abbrev pub place_refusal : Pit → ℕ → Option BuildError
place_refusal pit block =
    if nat_le pit.blocks block then Some BlockRange
    else if is_some (slice_index_or pit.places block None) then Some Repeated
    else None
