-- How the lines of a solution are gathered on the way to a device.
use Rattle.std.specs.Prelude.{◌≡◌, ℕ, List, [], ◌++◌, Option, Some, None}
use Rattle.std.specs.Io.KnownBytes.{Appends}
use Rattle.pit_text.specs.SolutionText.{line_text}

-- the line of a block, where it has a period
abbrev pub slot_text : ℕ → Option ℕ → List ℕ
slot_text block None = []
slot_text block (Some period) = line_text (block, period)

-- of what was held and a text behind it, the device got the front, and the rest is held
pub record Gathers (old new : Option (List ℕ)) (held text left : List ℕ) : Type 0 where
  pub given : List ℕ
  pub appended : Appends old new given
  pub whole : held ++ text ≡ given ++ left
