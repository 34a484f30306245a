-- How a line is gathered, a byte after the other.
use Rattle.std.specs.Prelude.{◌≡◌, ◌==◌, ℕ, ◌<◌, ◌≤◌, Bool, true, false, if◌then◌else◌, List, [], ◌∷◌, ◌++◌, length, Option, MatchBool}
use Rattle.std.specs.Io.KnownBytes.{Consumes, IsAtEnd}
use Rattle.pit_file.specs.InputLines.{HasNoFeed}
use Rattle.pit_file.specs.declared.input_lines.Got.{Got}
use Rattle.pit_file.specs.declared.input_lines.Got.TheVariants as got
use Rattle.pit_file.specs.declared.input_lines.Taken.{Taken}
use Rattle.pit_file.specs.declared.input_lines.Taken.TheVariants as taken
use Rattle.pit_file.specs.declared.input_lines.Turn.{Turn}
use Rattle.pit_file.specs.declared.input_lines.Turn.TheVariants.{Further, Fed, Ended}

-- what is kept of the front of a line: all of it, unless it is longer than so many bytes
abbrev pub IsKeptOf : ℕ → List ℕ → Bool → List ℕ → Type 0
IsKeptOf most front is_long kept = MatchBool is_long (most < length front) ((kept ≡ front) × (length front ≤ most))

-- what is kept of any front is what is kept of it with these bytes behind it
abbrev pub KeepsOn : ℕ → List ℕ → Bool → List ℕ → Bool → List ℕ → Type 0
KeepsOn most more was_long kept is_long kept_after = (front : List ℕ) → IsKeptOf most front was_long kept → IsKeptOf most (front ++ more) is_long kept_after

abbrev pub IsGot : Option (List ℕ) → Option (List ℕ) → Got → Type 0
IsGot before after (got.Byte byte) = Consumes before after (byte ∷ [])
IsGot before after got.End = Consumes before after [] × IsAtEnd after
IsGot before after got.Nothing = Consumes before after []

-- some bytes without a line feed were taken
pub record GoesFurther (before after : Option (List ℕ)) (most : ℕ) (was_long : Bool) (kept : List ℕ) (is_long : Bool) (kept_after : List ℕ) : Type 0 where
  pub more : List ℕ
  pub no_feed : HasNoFeed more
  pub taken : Consumes before after more
  pub keeps : KeepsOn most more was_long kept is_long kept_after

abbrev pub IsTurn : Option (List ℕ) → Option (List ℕ) → ℕ → Bool → List ℕ → List ℕ → Turn → Type 0
IsTurn before after most was_long kept kept_after (Further is_long) = GoesFurther before after most was_long kept is_long kept_after
IsTurn before after most was_long kept kept_after Fed = Consumes before after (10 ∷ []) × (kept_after ≡ kept)
IsTurn before after most was_long kept kept_after Ended = Consumes before after [] × IsAtEnd after × (kept_after ≡ kept)

-- what is answered at a line feed
abbrev pub fed_of : Bool → Taken
fed_of was_long = if was_long then taken.TooLong false else taken.Line false

-- what is answered at the end
abbrev pub ended_of : Bool → List ℕ → Taken
ended_of was_long line = if was_long then taken.TooLong true else if length line == 0 then taken.End else taken.Line true
