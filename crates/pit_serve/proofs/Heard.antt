-- A line that was taken is heard.
use Rattle.std.proofs.Common.{◌≡◌, ℕ, ◌<◌, nat_lt, Bool, true, false, List, [], ◌∷◌, ◌++◌, length, Option, Some, None, ap, sym, ◌∙◌, arith, append_assoc, append-nil, cond}
use Rattle.std.proofs.lemmas.Bool.Decides.{nat_tests}
use Rattle.pit_model.specs.Pit.{Pit}
use Rattle.pit_file.specs.InputLines.{TakesLine, TakesLong, IsEndOf}
use Rattle.pit_serve.specs.Asked.{asked_of, asked_within}
use Rattle.pit_serve.specs.InputLines.{input_lines}
use Rattle.pit_serve.specs.Inside.Turning.{Comes, IsHeard, HearsNone}
use Rattle.pit_serve.specs.declared.asked.Asked.{Asked}
use Rattle.pit_serve.specs.declared.asked.Asked.TheVariants.{Wrong}
use Rattle.pit_serve.specs.declared.asked.TheConstants.{LINE_MAX}
use Rattle.pit_serve.specs.declared.fault.RequestFault.TheVariants.{LineTooLong}
use Rattle.pit_serve.specs.declared.session_end.SessionEnd.TheVariants.{Input}
use Rattle.pit_text.specs.Cutting.{without_return}
use Rattle.pit_serve.proofs.InputLines.{line_then, line_alone, no_line}

none-left : (ys : List ℕ) → ys ≡ [] → input_lines ys ≡ []
none-left ys none = ap input_lines none ∙ no_line

comes : (before after : Option (List ℕ)) (line : List ℕ) (is_last : Bool) → TakesLine is_last before after line → Comes before line is_last after
comes None after line is_last takes = tt
comes (Some xs) None line true takes = absurd takes.taken.0
comes (Some xs) None line false takes = absurd takes.taken
comes (Some xs) (Some ys) line true takes =
    let none : ys ≡ [] = takes.taken.1 in
    let all : xs ≡ line = takes.taken.0 ∙ ap (λ (l : List ℕ). line ++ l) none ∙ append-nil line in
    (ap input_lines all ∙ line_alone line takes.no_feed takes.taken.2 ∙ ap (λ (l : List (List ℕ)). line ∷ l) (sym (none-left ys none)), λ last. none-left ys none)
comes (Some xs) (Some ys) line false takes =
    (ap input_lines (takes.taken ∙ append_assoc line (10 ∷ []) ys) ∙ line_then line ys takes.no_feed, λ last. cc last)

pub heard_line : (pit : Pit) (is_open : Bool) (before after : Option (List ℕ)) (line : List ℕ) (asked : Asked) (is_last : Bool) → TakesLine is_last before after line → asked ≡ asked_of pit is_open line
    → IsHeard pit is_open before after asked is_last
heard_line pit is_open before after line asked is_last takes asks = record { line = line; asks = asks; comes = comes before after line is_last takes }

too_long : (pit : Pit) (is_open : Bool) (line : List ℕ) → LINE_MAX < length line → Wrong LineTooLong ≡ asked_of pit is_open line
unfolding asked_of
too_long pit is_open line long =
    let test : nat_lt LINE_MAX (length line) ≡ true = grind (arith, nat_tests) in
    sym (ap (λ (b : Bool). cond b (Wrong LineTooLong) (asked_within pit is_open (without_return line))) test)

pub heard_long : (pit : Pit) (is_open : Bool) (before after : Option (List ℕ)) (is_last : Bool) → TakesLong is_last before after LINE_MAX → IsHeard pit is_open before after (Wrong LineTooLong) is_last
heard_long pit is_open before after is_last takes = record {
  line = takes.line;
  asks = too_long pit is_open takes.line takes.long;
  comes = comes before after takes.line is_last takes.taken;
}

pub heard_end : (before after : Option (List ℕ)) → IsEndOf before after → HearsNone before Input
heard_end None after ends = tt
heard_end (Some xs) None ends = absurd ends.0
heard_end (Some xs) (Some ys) ends = none-left xs (ends.0 ∙ ends.1)

pub ruleset hearing = (heard_line, heard_long, heard_end)
