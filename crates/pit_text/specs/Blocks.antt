-- What the lines of a block text say.
use Rattle.std.specs.Prelude.{ℕ, ℤ, List, [], ◌∷◌, Result, Ok, Err}
use Rattle.pit_model.specs.Pit.{Pit, with_place}
use Rattle.pit_model.specs.Refusals.{place_refusal}
use Rattle.pit_text.specs.declared.error.Fault.{Fault}
use Rattle.pit_text.specs.declared.error.Fault.TheVariants.{FieldCount}
use Rattle.pit_text.specs.Stands.{◌>>=◌}
use Rattle.pit_text.specs.Numbers.{whole_field, decimal_field}
use Rattle.pit_text.specs.Causes.{fact_unless}
use Rattle.pit_text.specs.Added.{pit_with, line_of_pit}

-- a block and its place; further fields aren't read
unfoldable pub place_line : List (List ℕ) → Result (ℕ × (ℤ × ℤ × ℤ)) Fault
place_line [] = Err FieldCount
place_line (b ∷ []) = Err FieldCount
place_line (b ∷ x ∷ []) = Err FieldCount
place_line (b ∷ x ∷ y ∷ []) = Err FieldCount
place_line (b ∷ x ∷ y ∷ z ∷ fields) =
    whole_field b >>= (λ block. decimal_field x >>= (λ east. decimal_field y >>= (λ north. decimal_field z >>= (λ height. Ok (block, (east, north, height))))))

abbrev pub with_place_fact : Pit → ℕ × (ℤ × ℤ × ℤ) → Pit
with_place_fact pit fact = with_place pit fact.0 fact.1

abbrev pub pit_with_places : Pit → List (ℕ × (ℤ × ℤ × ℤ)) → Pit
pit_with_places given facts = pit_with with_place_fact given facts

-- a line stands, unless the pit so far refuses it
abbrev pub new_place : Pit → ℕ × (ℤ × ℤ × ℤ) → Result (ℕ × (ℤ × ℤ × ℤ)) Fault
new_place pit fact = fact_unless (place_refusal pit fact.0) fact

abbrev pub place_fact : Pit → List (List ℕ) → Result (ℕ × (ℤ × ℤ × ℤ)) Fault
place_fact pit fields = place_line fields >>= new_place pit

abbrev pub block_line : Pit → List (ℕ × (ℤ × ℤ × ℤ)) → List (List ℕ) → Result (ℕ × (ℤ × ℤ × ℤ)) Fault
block_line given earlier fields = line_of_pit with_place_fact place_fact given earlier fields
