-- A pit that the lines of a text are added to.
use Rattle.std.specs.Prelude.{ℕ, List, Result}
use Rattle.std.specs.List.{fold}
use Rattle.pit_model.specs.Pit.{Pit}
use Rattle.pit_text.specs.declared.error.Fault.{Fault}

-- the pit that was given, with what the lines say, one after the other
unfoldable pub pit_with : {F : Type 0} → (Pit → F → Pit) → Pit → List F → Pit
pit_with with_fact given facts = fold with_fact given facts

-- a line is judged by the pit that the lines before it left
unfoldable pub line_of_pit : {F : Type 0} → (Pit → F → Pit) → (Pit → List (List ℕ) → Result F Fault) → Pit → List F → List (List ℕ) → Result F Fault
line_of_pit with_fact fact_in given earlier fields = fact_in (pit_with with_fact given earlier) fields
