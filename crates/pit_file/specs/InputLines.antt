-- What is taken of an input, a line after the other.
use Rattle.std.specs.Prelude.{◌≢◌, ℕ, ◌<◌, ◌≤◌, Bool, List, [], ◌∷◌, ◌++◌, length, Option, All, MatchBool}
use Rattle.std.specs.Io.KnownBytes.{Consumes, IsAtEnd}
use Rattle.pit_file.specs.declared.input_lines.Taken.{Taken}
use Rattle.pit_file.specs.declared.input_lines.Taken.TheVariants.{Line, TooLong, End}

-- no byte of these is a line feed
abbrev pub HasNoFeed : List ℕ → Type 0
HasNoFeed line = All (λ byte. byte ≢ 10) line

-- the line was taken, with its line feed; or, where it is the last, with the end
pub record TakesLine (is_last : Bool) (before after : Option (List ℕ)) (line : List ℕ) : Type 0 where
  pub no_feed : HasNoFeed line
  pub taken : MatchBool is_last (Consumes before after line × IsAtEnd after × 0 < length line) (Consumes before after (line ++ 10 ∷ []))

-- a line of more than so many bytes was taken
pub record TakesLong (is_last : Bool) (before after : Option (List ℕ)) (most : ℕ) : Type 0 where
  pub line : List ℕ
  pub long : most < length line
  pub taken : TakesLine is_last before after line

-- nothing was taken, at the end
abbrev pub IsEndOf : Option (List ℕ) → Option (List ℕ) → Type 0
IsEndOf before after = Consumes before after [] × IsAtEnd after

-- a front of a line was taken
pub record TakesFront (before after : Option (List ℕ)) : Type 0 where
  pub front : List ℕ
  pub no_feed : HasNoFeed front
  pub taken : Consumes before after front

-- what came of a call that takes a line of at most so many bytes, and what is left of the line
abbrev pub IsTaken : Option (List ℕ) → Option (List ℕ) → ℕ → List ℕ → Taken → Type 0
IsTaken before after most line (Line is_last) = TakesLine is_last before after line × (length line ≤ most)
IsTaken before after most line (TooLong is_last) = TakesLong is_last before after most
IsTaken before after most line End = IsEndOf before after
