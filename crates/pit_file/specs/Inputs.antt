-- Which files are inputs.
use Rattle.std.specs.Prelude.{Bool, false, ◌&&◌, ◌||◌, ◌==◌, List, [], ◌∷◌, Option, Some, None}
use Rattle.pit_file.specs.declared.identity.FileIdentity.{FileIdentity}

-- both are one regular file: the same number on the same device
abbrev pub is_one : FileIdentity → Option FileIdentity → Bool
is_one file None = false
is_one file (Some input) = (file.device == input.device) && (file.number == input.number)

abbrev pub is_any : FileIdentity → List (Option FileIdentity) → Bool
is_any file [] = false
is_any file (input ∷ inputs) = is_one file input || is_any file inputs

abbrev pub is_input : Option FileIdentity → List (Option FileIdentity) → Bool
is_input None inputs = false
is_input (Some file) inputs = is_any file inputs
