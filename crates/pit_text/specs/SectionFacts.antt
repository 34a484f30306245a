-- What a line of a section says by itself, and what it makes of a pit.
use Rattle.std.specs.Prelude.{ℕ, ℤ, if◌then◌else◌, List, [], ◌∷◌, Result, Ok, Err, Option, None, codes}
use Rattle.std.specs.Str.{bytes_eq}
use Rattle.pit_model.specs.Pit.{Pit, with_profit, with_coef, with_limit}
use Rattle.pit_model.specs.Refusals.{profit_refusal, coef_refusal, limit_refusal}
use Rattle.pit_model.specs.declared.error.BuildError.{BuildError}
use Rattle.pit_text.specs.declared.error.Fault.{Fault}
use Rattle.pit_text.specs.declared.error.Fault.TheVariants.{NotAscii, FieldCount, BadKind}
use Rattle.pit_text.specs.declared.model.section.Section.{Section}
use Rattle.pit_text.specs.declared.model.section.Section.TheVariants.{Objective, Coefficients, Limits}
use Rattle.pit_text.specs.declared.model.section_fact.SectionFact.{SectionFact}
use Rattle.pit_text.specs.declared.model.section_fact.SectionFact.TheVariants.{Profit, Coefficient, Limit}
use Rattle.pit_text.specs.declared.model.section_fact.LimitKind.{LimitKind}
use Rattle.pit_text.specs.declared.model.section_fact.LimitKind.TheVariants.{AtMost, AtLeast, Between}
use Rattle.pit_text.specs.Stands.{◌>>=◌}
use Rattle.pit_text.specs.Numbers.{is_ascii, whole_field, decimal_field}
use Rattle.pit_text.specs.Bounds.{lower_field, upper_field}

-- ---- by section

-- a block and its profit
unfoldable pub profit_line : List (List ℕ) → Result SectionFact Fault
profit_line [] = Err FieldCount
profit_line (b ∷ []) = Err FieldCount
profit_line (b ∷ v ∷ []) = whole_field b >>= (λ block. decimal_field v >>= (λ value. Ok (Profit block value)))
profit_line (b ∷ v ∷ more ∷ fields) = Err FieldCount

-- a block, a resource, and how much of it the block takes
unfoldable pub coefficient_line : List (List ℕ) → Result SectionFact Fault
coefficient_line [] = Err FieldCount
coefficient_line (b ∷ []) = Err FieldCount
coefficient_line (b ∷ r ∷ []) = Err FieldCount
coefficient_line (b ∷ r ∷ v ∷ []) =
    whole_field b >>= (λ block. whole_field r >>= (λ resource. decimal_field v >>= (λ value. Ok (Coefficient block resource value))))
coefficient_line (b ∷ r ∷ v ∷ more ∷ fields) = Err FieldCount

unfoldable pub kind_by : List ℕ → Result LimitKind Fault
kind_by field =
    if bytes_eq field (codes "L") then Ok AtMost
    else if bytes_eq field (codes "G") then Ok AtLeast
    else if bytes_eq field (codes "I") then Ok Between
    else Err BadKind

unfoldable pub kind_field : List ℕ → Result LimitKind Fault
kind_field field = if is_ascii field then kind_by field else Err NotAscii

-- the bounds behind a kind, whose number goes before their form
unfoldable pub bounds_by : LimitKind → List ℕ → List (List ℕ) → Result (Option ℤ × Option ℤ) Fault
bounds_by AtMost hi [] = upper_field hi >>= (λ upper. Ok (None, upper))
bounds_by AtMost hi (more ∷ fields) = Err FieldCount
bounds_by AtLeast lo [] = lower_field lo >>= (λ lower. Ok (lower, None))
bounds_by AtLeast lo (more ∷ fields) = Err FieldCount
bounds_by Between lo [] = Err FieldCount
bounds_by Between lo (hi ∷ []) = lower_field lo >>= (λ lower. upper_field hi >>= (λ upper. Ok (lower, upper)))
bounds_by Between lo (hi ∷ more ∷ fields) = Err FieldCount

-- a resource, a period, a kind, and one bound or two
unfoldable pub limit_line : List (List ℕ) → Result SectionFact Fault
limit_line [] = Err FieldCount
limit_line (r ∷ []) = Err FieldCount
limit_line (r ∷ t ∷ []) = Err FieldCount
limit_line (r ∷ t ∷ kind ∷ []) = Err FieldCount
limit_line (r ∷ t ∷ kind ∷ bound ∷ more) =
    whole_field r >>= (λ resource. whole_field t >>= (λ period. kind_field kind >>= (λ k.
    bounds_by k bound more >>= (λ bounds. Ok (Limit resource period bounds.0 bounds.1)))))

abbrev pub section_fact_of : Section → List (List ℕ) → Result SectionFact Fault
section_fact_of Objective fields = profit_line fields
section_fact_of Coefficients fields = coefficient_line fields
section_fact_of Limits fields = limit_line fields

-- ---- in a pit

abbrev pub with_section_fact : Pit → SectionFact → Pit
with_section_fact pit (Profit block value) = with_profit pit block value
with_section_fact pit (Coefficient block resource value) = with_coef pit block resource value
with_section_fact pit (Limit resource period lo hi) = with_limit pit resource period lo hi

abbrev pub section_fact_refusal : Pit → SectionFact → Option BuildError
section_fact_refusal pit (Profit block value) = profit_refusal pit block
section_fact_refusal pit (Coefficient block resource value) = coef_refusal pit block resource
section_fact_refusal pit (Limit resource period lo hi) = limit_refusal pit resource period lo hi
