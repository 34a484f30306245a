-- What the earlier lines of a text said.
use Rattle.std.specs.Prelude.{List, [], ◌∷◌, Option, Some, None}
use Rattle.std.specs.List.{filter_map}

abbrev pub first_of : {X : Type 0} → List X → Option X
first_of [] = None
first_of (x ∷ xs) = Some x

-- what the first fact says that says anything of it
abbrev pub first_value : {F X : Type 0} → (F → Option X) → List F → Option X
first_value says facts = first_of (filter_map says facts)
