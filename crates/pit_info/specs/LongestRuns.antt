-- What the longest runs of unknown keys are.
use Rattle.std.specs.Prelude.{◌≡◌, ◌<◌, false, true, List, [], ◌∷◌, ◌++◌, length, All, MatchOption, ⊤}
use Rattle.pit_text.specs.Cutting.{Cut}
use Rattle.pit_text.specs.Model.{last_of}
use Rattle.pit_info.specs.Unknown.{has_known_key}

-- there is no line, or the last one's key is known
abbrev pub EndsKnown : List Cut → Type 0
EndsKnown lines = MatchOption (last_of lines) ⊤ (λ line. has_known_key line ≡ true)

-- there is no line, or the first one's key is known
abbrev pub BeginsKnown : List Cut → Type 0
BeginsKnown [] = ⊤
BeginsKnown (line ∷ lines) = has_known_key line ≡ true

-- of these lines some that follow one another, with no known key, between lines with known keys or at an end
pub record IsLongestRun (lines run : List Cut) : Type 0 where
  pub some : 0 < length run
  pub unknown : All (λ line. has_known_key line ≡ false) run
  pub before : List Cut
  pub after : List Cut
  pub cut : lines ≡ before ++ (run ++ after)
  pub begins : EndsKnown before
  pub ends : BeginsKnown after
