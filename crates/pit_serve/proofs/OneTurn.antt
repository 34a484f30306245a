-- One turn, of what its parts do.
use Rattle.std.proofs.Common.{◌≡◌, ℕ, Bool, true, false, List, [], ◌∷◌, ◌++◌, Option, Some, None, refl, ap, sym, ◌∙◌, subst, append-nil, inl, inr}
use Rattle.std.specs.Prelude.{IfSome}
use Rattle.std.specs.Io.KnownBytes.{Appends}
use mathlib.Core.List.{IsPrefix}
use Rattle.pit_model.specs.Pit.{Pit}
use Rattle.pit_serve.specs.Asked.{asked_of}
use Rattle.pit_serve.specs.InputLines.{input_lines, answered_among, answered_lines}
use Rattle.pit_serve.specs.Phases.{PhaseState, is_open}
use Rattle.pit_serve.specs.Replies.{answer_text}
use Rattle.pit_serve.specs.Sessions.{Turn, Standing, Meets, AreTurns, AreLinesOf, IsCut, Turns}
use Rattle.pit_serve.specs.Inside.Turning.{Comes, IsHeard, HearsNone, Tells, IsReplied, end_if, count_of, ends_by}
use Rattle.pit_serve.specs.declared.answer.Answer.{Answer}
use Rattle.pit_serve.specs.declared.asked.Asked.{Asked}
use Rattle.pit_serve.specs.declared.asked.Asked.TheVariants.{Nothing, End, Request, Wrong}
use Rattle.pit_serve.specs.declared.session_end.SessionEnd.{SessionEnd}
use Rattle.pit_serve.specs.declared.session_end.SessionEnd.TheVariants as ending
use Rattle.pit_serve.proofs.AnsweredLines.{nothing_passes, end_stops, request_stands, wrong_stands}
use Rattle.pit_serve.proofs.Turning.{appends_none}

-- ---- the lines of a turn

-- a line adds these to those that are answered
abbrev Adds : List ℕ → List (List ℕ) → Type 0
Adds line lines = (rest : List (List ℕ)) → answered_among (line ∷ rest) ≡ lines ++ answered_among rest

none_among : answered_among [] ≡ []
unfolding answered_among
none_among = refl

lines_come : (before after : Option (List ℕ)) (line : List ℕ) (lines : List (List ℕ)) (is_last : Bool) → Comes before line is_last after → Adds line lines → AreLinesOf before lines after (end_if is_last)
lines_come None after line lines true comes adds = tt
lines_come None after line lines false comes adds = tt
lines_come (Some xs) None line lines is_last comes adds = absurd comes
lines_come (Some xs) (Some ys) line lines false comes adds = ap answered_among comes.0 ∙ adds (input_lines ys)
lines_come (Some xs) (Some ys) line lines true comes adds =
    ap answered_among comes.0 ∙ adds (input_lines ys) ∙ ap (λ (l : List (List ℕ)). lines ++ answered_among l) (comes.1 refl) ∙ ap (λ (l : List (List ℕ)). lines ++ l) none_among ∙ append-nil lines

front_comes : (before after : Option (List ℕ)) (line : List ℕ) (lines : List (List ℕ)) (is_last : Bool) → Comes before line is_last after → Adds line lines → IfSome before (λ xs. IsPrefix lines (answered_lines xs))
front_comes None after line lines is_last comes adds = tt
front_comes (Some xs) None line lines is_last comes adds = absurd comes
front_comes (Some xs) (Some ys) line lines is_last comes adds = (answered_among (input_lines ys), sym (ap answered_among comes.0 ∙ adds (input_lines ys)))

lines_stop : (before after : Option (List ℕ)) (line : List ℕ) (is_last : Bool) → Comes before line is_last after → ((rest : List (List ℕ)) → answered_among (line ∷ rest) ≡ []) → AreLinesOf before [] after (Some ending.Input)
lines_stop None after line is_last comes stops = tt
lines_stop (Some xs) None line is_last comes stops = absurd comes
lines_stop (Some xs) (Some ys) line is_last comes stops = ap answered_among comes.0 ∙ stops (input_lines ys)

lines_end : (before after : Option (List ℕ)) (end : SessionEnd) → HearsNone before end → AreLinesOf before [] after (Some end)
lines_end None after ending.Input none = tt
lines_end None after ending.Output none = tt
lines_end None after ending.NoStream none = tt
lines_end None after ending.NoThread none = tt
lines_end None after ending.NoMemory none = tt
lines_end (Some xs) after ending.Input none = ap answered_among none ∙ none_among
lines_end (Some xs) after ending.Output none = absurd none
lines_end (Some xs) after ending.NoStream none = (answered_lines xs, refl)
lines_end (Some xs) after ending.NoThread none = absurd none
lines_end (Some xs) after ending.NoMemory none = (answered_lines xs, refl)

-- ---- turns without an answer

quiet : (pit : Pit) (max : ℕ) (at : Standing) (input after output : Option (List ℕ)) (end : Option SessionEnd) → AreLinesOf input [] after end → IsCut end [] [] → Turns pit max at at input after output output end 0
quiet pit max at input after output end lines cut = record {
  told = [];
  cut = [];
  front = [];
  turns = refl;
  lines = lines;
  is_cut = cut;
  output = appends_none output;
  count = refl;
}

uncut_if : (is_last : Bool) → IsCut (end_if is_last) [] []
uncut_if true = (refl, refl)
uncut_if false = (refl, refl)

uncut_none : (before : Option (List ℕ)) (end : SessionEnd) → HearsNone before end → IsCut (Some end) [] []
uncut_none before ending.Input none = (refl, refl)
uncut_none before ending.Output none = absurd none
uncut_none before ending.NoStream none = (refl, refl)
uncut_none before ending.NoThread none = absurd none
uncut_none before ending.NoMemory none = (inl refl, refl)

pub turn_unheard : (pit : Pit) (max : ℕ) (at : Standing) (input after output : Option (List ℕ)) (end : SessionEnd) → HearsNone input end → Turns pit max at at input after output output (Some end) 0
turn_unheard pit max at input after output end none = quiet pit max at input after output (Some end) (lines_end input after end none) (uncut_none input end none)

pub turn_passed : (pit : Pit) (max : ℕ) (at : Standing) (input after output : Option (List ℕ)) (asked : Asked) (is_last : Bool) → IsHeard pit (is_open at.phase) input after asked is_last → asked ≡ Nothing
    → Turns pit max at at input after output output (end_if is_last) 0
turn_passed pit max at input after output asked is_last heard is =
    quiet pit max at input after output (end_if is_last)
    (lines_come input after heard.line [] is_last heard.comes (λ rest. nothing_passes pit (is_open at.phase) heard.line rest (sym heard.asks ∙ is)))
    (uncut_if is_last)

pub turn_stopped : (pit : Pit) (max : ℕ) (at : Standing) (input after output : Option (List ℕ)) (asked : Asked) (is_last : Bool) → IsHeard pit (is_open at.phase) input after asked is_last → asked ≡ End
    → Turns pit max at at input after output output (Some ending.Input) 0
turn_stopped pit max at input after output asked is_last heard is =
    quiet pit max at input after output (Some ending.Input)
    (lines_stop input after heard.line is_last heard.comes (λ rest. end_stops pit (is_open at.phase) heard.line rest (sym heard.asks ∙ is)))
    (refl, refl)

-- ---- turns with an answer

adds_by : (pit : Pit) (max : ℕ) (old : Standing) (asked : Asked) (line : List ℕ) (answer : Answer) (new : PhaseState) → Meets pit max old asked answer new → asked ≡ asked_of pit (is_open old.phase) line → Adds line (line ∷ [])
adds_by pit max old Nothing line answer new meets asks = absurd meets
adds_by pit max old End line answer new meets asks = absurd meets
adds_by pit max old (Request request) line answer new meets asks = λ rest. request_stands pit (is_open old.phase) line rest request (sym asks)
adds_by pit max old (Wrong fault) line answer new meets asks = λ rest. wrong_stands pit (is_open old.phase) line rest fault (sym asks)

turn_of : (pit : Pit) (max : ℕ) (old new : Standing) (input after output output_after : Option (List ℕ)) (asked : Asked) (is_last : Bool) (end : Option SessionEnd)
    → (heard : IsHeard pit (is_open old.phase) input after asked is_last) → (replied : IsReplied pit max old asked new output output_after end)
    → AreTurns pit max old (record { line = heard.line; answer = replied.answer } ∷ []) new
turn_of pit max old new input after output output_after asked is_last end heard replied =
    (new, record { meets = subst (λ (a : Asked). Meets pit max old a replied.answer new.phase) heard.asks replied.meets; begun = replied.begun }, refl)

pub turn_told : (pit : Pit) (max : ℕ) (old new : Standing) (input after output output_after : Option (List ℕ)) (asked : Asked) (is_last : Bool) → IsHeard pit (is_open old.phase) input after asked is_last
    → IsReplied pit max old asked new output output_after None → Turns pit max old new input after output output_after (end_if is_last) 1
turn_told pit max old new input after output output_after asked is_last heard replied = record {
  told = record { line = heard.line; answer = replied.answer } ∷ [];
  cut = [];
  front = [];
  turns = turn_of pit max old new input after output output_after asked is_last None heard replied;
  lines = lines_come input after heard.line (heard.line ∷ []) is_last heard.comes (adds_by pit max old asked heard.line replied.answer new.phase replied.meets heard.asks);
  is_cut = uncut_if is_last;
  output = subst (λ (l : List ℕ). Appends output output_after l) (sym (append-nil (answer_text replied.answer ++ []) ∙ append-nil (answer_text replied.answer))) replied.told;
  count = refl;
}

cut_lines : (before after : Option (List ℕ)) (lines : List (List ℕ)) (out out_after : Option (List ℕ)) (text : List ℕ) (end : SessionEnd) → Tells out out_after text (Some end) → IfSome before (λ xs. IsPrefix lines (answered_lines xs))
    → AreLinesOf before lines after (Some end)
cut_lines before after lines out out_after text ending.Input tells front = absurd tells
cut_lines before after lines out out_after text ending.Output tells front = front
cut_lines before after lines out out_after text ending.NoStream tells front = absurd tells
cut_lines before after lines out out_after text ending.NoThread tells front = absurd tells
cut_lines before after lines out out_after text ending.NoMemory tells front = front

-- what was told of a reply, where the session ends by it
told_of : (out out_after : Option (List ℕ)) (turn : Turn) (end : SessionEnd) → Tells out out_after (answer_text turn.answer) (Some end)
    → (front : List ℕ) × IsCut (Some end) (turn ∷ []) front × Appends out out_after front
told_of out out_after turn ending.Input tells = absurd tells
told_of out out_after turn ending.Output tells = (tells.written, (turn, refl, (tells.rest, sym tells.whole)), tells.appended)
told_of out out_after turn ending.NoStream tells = absurd tells
told_of out out_after turn ending.NoThread tells = absurd tells
told_of out out_after turn ending.NoMemory tells = ([], (inr (turn, refl), refl), tells)

pub turn_cut : (pit : Pit) (max : ℕ) (old new : Standing) (input after output output_after : Option (List ℕ)) (asked : Asked) (is_last : Bool) (end : SessionEnd)
    → IsHeard pit (is_open old.phase) input after asked is_last → IsReplied pit max old asked new output output_after (Some end)
    → Turns pit max old new input after output output_after (Some end) 0
turn_cut pit max old new input after output output_after asked is_last end heard replied =
    let turn : Turn = record { line = heard.line; answer = replied.answer } in
    let told = told_of output output_after turn end replied.told in
    record {
      told = [];
      cut = turn ∷ [];
      front = told.0;
      turns = turn_of pit max old new input after output output_after asked is_last (Some end) heard replied;
      lines = cut_lines input after (heard.line ∷ []) output output_after (answer_text replied.answer) end replied.told
          (front_comes input after heard.line (heard.line ∷ []) is_last heard.comes (adds_by pit max old asked heard.line replied.answer new.phase replied.meets heard.asks));
      is_cut = told.1;
      output = told.2;
      count = refl;
    }

pub turn_replied : (pit : Pit) (max : ℕ) (old new : Standing) (input after output output_after : Option (List ℕ)) (asked : Asked) (is_last : Bool) (end : Option SessionEnd)
    → IsHeard pit (is_open old.phase) input after asked is_last → IsReplied pit max old asked new output output_after end
    → Turns pit max old new input after output output_after (ends_by end is_last) (count_of end)
turn_replied pit max old new input after output output_after asked is_last None heard replied = turn_told pit max old new input after output output_after asked is_last heard replied
turn_replied pit max old new input after output output_after asked is_last (Some end) heard replied = turn_cut pit max old new input after output output_after asked is_last end heard replied
