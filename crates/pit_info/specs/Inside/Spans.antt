-- Runs of unknown keys, as they are read line by line.
use Rattle.std.specs.Prelude.{◌≡◌, ℕ, false, List, [], ◌∷◌, ◌++◌, Option, Some, None, unwrap_or, All, ⊤}
use Rattle.std.specs.Io.KnownBytes.{Appends}
use Rattle.pit_text.specs.Cutting.{Cut}
use Rattle.pit_text.specs.Model.{last_of}
use Rattle.pit_info.specs.Unknown.{key_field, has_known_key, span_text, runs_text}
use Rattle.pit_info.specs.declared.unknown.Span.{Span}

-- these lines are the run
abbrev pub IsSpanAt : List Cut → Option Span → Type 0
IsSpanAt [] None = ⊤
IsSpanAt [] (Some span) = ⊥
IsSpanAt (line ∷ others) None = ⊥
IsSpanAt (line ∷ others) (Some span) =
    (span.first ≡ line.number) × (span.last ≡ (unwrap_or (last_of others) line).number) × (span.key.now ≡ key_field line)

-- and none of their keys is known
pub record IsSpanOf (run : List Cut) (span : Option Span) : Type 0 where
  pub unknown : All (λ line. has_known_key line ≡ false) run
  pub is : IsSpanAt run span

-- the line of a run, where there is one
abbrev pub pending_text : Option Span → List ℕ
pending_text None = []
pending_text (Some span) = span_text span.first span.last span.key.now

-- What one more line behind a run makes of it: this is written, and another run stands then.
pub record IsNextSpan (before after : Option (List ℕ)) (run : List Cut) (line : Cut) (span : Option Span) : Type 0 where
  pub text : List ℕ
  pub written : Appends before after text
  pub left : List Cut
  pub spans : IsSpanOf left span
  pub same : (rest : List Cut) → runs_text (run ++ line ∷ rest) ≡ text ++ runs_text (left ++ rest)
