-- What the lines of a precedence text say.
use Rattle.std.specs.Prelude.{ℕ, ◌==◌, if◌then◌else◌, List, [], ◌∷◌, length, Result, Ok, Err}
use Rattle.pit_model.specs.Pit.{Pit, with_preds}
use Rattle.pit_model.specs.Refusals.{preds_refusal}
use Rattle.pit_text.specs.declared.error.Fault.{Fault}
use Rattle.pit_text.specs.declared.error.Fault.TheVariants.{FieldCount, CountWrong}
use Rattle.pit_text.specs.Stands.{◌>>=◌}
use Rattle.pit_text.specs.Numbers.{whole_field}
use Rattle.pit_text.specs.Causes.{fact_unless}
use Rattle.pit_text.specs.Added.{pit_with, line_of_pit}

-- whole numbers, from left to right
abbrev pub wholes_of : List (List ℕ) → Result (List ℕ) Fault
wholes_of [] = Ok []
wholes_of (field ∷ fields) = whole_field field >>= (λ n. wholes_of fields >>= (λ more. Ok (n ∷ more)))

-- the predecessors, as many as were said
abbrev pub listed_blocks : ℕ → List (List ℕ) → Result (List ℕ) Fault
listed_blocks count fields = if count == length fields then wholes_of fields else Err CountWrong

-- a block, the number of its predecessors, and these
unfoldable pub preds_line : List (List ℕ) → Result (ℕ × List ℕ) Fault
preds_line [] = Err FieldCount
preds_line (b ∷ []) = Err FieldCount
preds_line (b ∷ k ∷ fields) = whole_field b >>= (λ block. whole_field k >>= (λ count. listed_blocks count fields >>= (λ listed. Ok (block, listed))))

abbrev pub with_preds_fact : Pit → ℕ × List ℕ → Pit
with_preds_fact pit fact = with_preds pit fact.0 fact.1

abbrev pub pit_with_preds : Pit → List (ℕ × List ℕ) → Pit
pit_with_preds given facts = pit_with with_preds_fact given facts

-- a line stands, unless the pit so far refuses it
abbrev pub new_preds : Pit → ℕ × List ℕ → Result (ℕ × List ℕ) Fault
new_preds pit fact = fact_unless (preds_refusal pit fact.0 fact.1) fact

abbrev pub preds_fact : Pit → List (List ℕ) → Result (ℕ × List ℕ) Fault
preds_fact pit fields = preds_line fields >>= new_preds pit

abbrev pub precedence_line : Pit → List (ℕ × List ℕ) → List (List ℕ) → Result (ℕ × List ℕ) Fault
precedence_line given earlier fields = line_of_pit with_preds_fact preds_fact given earlier fields
