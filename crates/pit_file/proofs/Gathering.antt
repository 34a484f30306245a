-- Lines that are gathered, a byte after the other.
use Rattle.std.proofs.Common.{◌≡◌, ◌≢◌, ℕ, ◌≤◌, Bool, true, false, List, [], ◌∷◌, ◌++◌, length, append-nil, Option, if◌then◌else◌, ne_eqb, sym, subst, ◌∙◌, arith}
use Rattle.std.proofs.lemmas.List.Elements.{All-append}
use Rattle.std.proofs.KnownBytes.{Consumes-trans}
use Rattle.std.specs.Io.KnownBytes.{Consumes, IsAtEnd}
use Rattle.pit_file.specs.InputLines.{HasNoFeed, TakesLine, TakesFront, IsTaken}
use Rattle.pit_file.specs.declared.input_lines.Taken.TheVariants.{End, Line}
use Rattle.pit_file.specs.declared.input_lines.Turn.{Turn}
use Rattle.pit_file.specs.declared.input_lines.Turn.TheVariants.{Further, Fed, Ended}
use Rattle.pit_file.specs.Inside.LineTurns.{IsKeptOf, GoesFurther, IsTurn, fed_of, ended_of}

-- what was taken of a line so far, and what is kept of it
abbrev IsBegun : Option (List ℕ) → Option (List ℕ) → ℕ → Bool → List ℕ → Type 0
IsBegun before now most is_long kept = (front : List ℕ) × HasNoFeed front × Consumes before now front × IsKeptOf most front is_long kept

module _ (before now after : Option (List ℕ)) (most : ℕ) (was_long : Bool) (kept kept_after : List ℕ) (begun : IsBegun before now most was_long kept) where
  pub goes_on : (is_long : Bool) (turn : Turn) → turn ≡ Further is_long → IsTurn now after most was_long kept kept_after turn → IsBegun before after most is_long kept_after
  goes_on is_long turn is given =
      let further : GoesFurther now after most was_long kept is_long kept_after = subst (IsTurn now after most was_long kept kept_after) is given in
      (begun.0 ++ further.more, All-append (λ byte. byte ≢ 10) begun.0 further.more begun.1 further.no_feed, Consumes-trans before now after begun.0 further.more begun.2 further.taken, further.keeps begun.0 begun.3)

  pub front_taken : TakesFront now after → TakesFront before after
  front_taken further = record {
    front = begun.0 ++ further.front;
    no_feed = All-append (λ byte. byte ≢ 10) begun.0 further.front begun.1 further.no_feed;
    taken = Consumes-trans before now after begun.0 further.front begun.2 further.taken;
  }

  pub taken_fed : (turn : Turn) → turn ≡ Fed → IsTurn now after most was_long kept kept_after turn → IsTaken before after most kept_after (fed_of was_long)
  taken_fed turn is given = at was_long begun.3
    where
      fed : Consumes now after (10 ∷ []) × (kept_after ≡ kept)
      fed = subst (IsTurn now after most was_long kept kept_after) is given

      taken : Consumes before after (begun.0 ++ 10 ∷ [])
      taken = Consumes-trans before now after begun.0 (10 ∷ []) begun.2 fed.0

      at : (is_long : Bool) → IsKeptOf most begun.0 is_long kept → IsTaken before after most kept_after (fed_of is_long)
      at true long = record { line = begun.0; long = long; taken = record { no_feed = begun.1; taken = taken } }
      at false whole =
          subst (λ (line : List ℕ). TakesLine false before after line × (length line ≤ most)) (sym (fed.1 ∙ whole.0)) (record { no_feed = begun.1; taken = taken }, whole.1)

  pub taken_end : (turn : Turn) → turn ≡ Ended → IsTurn now after most was_long kept kept_after turn → IsTaken before after most kept_after (ended_of was_long kept_after)
  taken_end turn is given = at was_long begun.3
    where
      end : Consumes now after [] × IsAtEnd after × (kept_after ≡ kept)
      end = subst (IsTurn now after most was_long kept kept_after) is given

      taken : Consumes before after begun.0
      taken = subst (λ (line : List ℕ). Consumes before after line) (append-nil begun.0) (Consumes-trans before now after begun.0 [] begun.2 end.0)

      short : (line : List ℕ) → HasNoFeed line → Consumes before after line → length line ≤ most → IsTaken before after most line (ended_of false line)
      short [] none whole few = (whole, end.1)
      short (x ∷ xs) none whole few =
          subst (λ (is_empty : Bool). IsTaken before after most (x ∷ xs) (if is_empty then End else Line true)) (sym (ne_eqb (length (x ∷ xs)) 0 (λ none_is. absurd (omega arith))))
          (record { no_feed = none; taken = (whole, end.1, omega arith) }, few)

      at : (is_long : Bool) → IsKeptOf most begun.0 is_long kept → IsTaken before after most kept_after (ended_of is_long kept_after)
      at true long = record { line = begun.0; long = long; taken = record { no_feed = begun.1; taken = (taken, end.1, omega arith) } }
      at false whole =
          subst (λ (line : List ℕ). IsTaken before after most line (ended_of false line)) (sym (end.2 ∙ whole.0)) (short begun.0 begun.1 taken whole.1)
