-- Keys, each with a value, in the order of first use, and when a further one may take memory.
use Rattle.std.specs.Prelude.{◌≡◌, ◌≢◌, ◌+◌, ◌≤◌, ◌++◌, List, [], ◌∷◌, length, Bool, Option, None, is_some, if◌then◌else◌}
use Rattle.std.specs.Map.{lookup}
use Rattle.indexmap.specs.IndexMap.{IndexMap, insert_entry, spare}

module _ {K V : Type 0} (eq : K → K → Bool) where
  -- the value at a key, if it is there
  abbrev pub at_key : List (K × V) → K → Option V
  at_key pairs key = lookup (eq key) pairs

  -- the pairs and what was read: a key that is there keeps its value, and another goes last
  abbrev pub with_read : List (K × V) → K → V → List (K × V)
  with_read pairs key value = if is_some (at_key pairs key) then pairs else pairs ++ (key, value) ∷ []

  -- the pairs and what is written: a key that is there keeps its place and takes the value, and another goes last
  abbrev pub with_write : List (K × V) → K → V → List (K × V)
  with_write pairs key value = insert_entry eq pairs key value

  -- one key after another is written with a value
  abbrev pub with_each : List (K × V) → List K → V → List (K × V)
  with_each pairs [] value = pairs
  with_each pairs (key ∷ keys) value = with_each (with_write pairs key value) keys value

-- a further key: the set has keys, and not this one. A first key has its room
pub record IsFurther {K V : Type 0} (eq : K → K → Bool) (pairs : List (K × V)) (key : K) : Type 0 where
  pub others : pairs ≢ []
  pub absent : at_key eq pairs key ≡ None

-- a map has entries, or there is room for one
abbrev pub HasFirstRoom : {K V S : Type 0} → IndexMap K V S → Type 0
HasFirstRoom map = 1 ≤ length map.entries + spare map
