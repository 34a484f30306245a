-- Turns that go on.
use Rattle.std.proofs.Common.{◌≡◌, ℕ, ◌+◌, List, [], ◌∷◌, ◌++◌, length, Option, Some, None, refl, ap, sym, ◌∙◌, subst, append_assoc, append-nil, length-append}
use Rattle.std.specs.Io.KnownBytes.{Appends}
use Rattle.std.proofs.lemmas.List.{map-append}
use Rattle.std.proofs.lemmas.List.Concat.{flat_map-append}
use mathlib.Core.List.{IsPrefix}
use Rattle.pit_model.specs.Pit.{Pit}
use Rattle.pit_serve.specs.InputLines.{answered_lines}
use Rattle.pit_serve.specs.Replies.{answer_text}
use Rattle.pit_serve.specs.Sessions.{Turn, Standing, AreTurns, lines_in, replies_of, AreLinesOf, AreLinesTo, Turns}
use Rattle.pit_serve.specs.declared.session_end.SessionEnd.{SessionEnd}
use Rattle.pit_serve.specs.declared.session_end.SessionEnd.TheVariants as ending

turns-append : (pit : Pit) (max : ℕ) (old : Standing) (ts : List Turn) (mid : Standing) (us : List Turn) (new : Standing) → AreTurns pit max old ts mid → AreTurns pit max mid us new
    → AreTurns pit max old (ts ++ us) new
turns-append pit max old [] mid us new same more = subst (λ (s : Standing). AreTurns pit max s us new) same more
turns-append pit max old (t ∷ ts) mid us new (next, turn, rest) more = (next, turn, turns-append pit max next ts mid us new rest more)

appends_more : (before mid after : Option (List ℕ)) (xs ys : List ℕ) → Appends before mid xs → Appends mid after ys → Appends before after (xs ++ ys)
appends_more None mid after xs ys first then = tt
appends_more (Some bs) None after xs ys first then = absurd first
appends_more (Some bs) (Some cs) None xs ys first then = absurd then
appends_more (Some bs) (Some cs) (Some ds) xs ys first then = then ∙ ap (λ (l : List ℕ). l ++ ys) first ∙ append_assoc bs xs ys

pub appends_none : (held : Option (List ℕ)) → Appends held held []
appends_none None = tt
appends_none (Some bs) = sym (append-nil bs)

more-prefix : (bs cs : List ℕ) (xs ys : List (List ℕ)) → answered_lines bs ≡ xs ++ answered_lines cs → IsPrefix ys (answered_lines cs) → IsPrefix (xs ++ ys) (answered_lines bs)
more-prefix bs cs xs ys first then = (then.0, append_assoc xs ys then.0 ∙ ap (λ (l : List (List ℕ)). xs ++ l) then.1 ∙ sym first)

lines_more : (before mid after : Option (List ℕ)) (xs ys : List (List ℕ)) (end : Option SessionEnd) → AreLinesTo before xs mid → AreLinesOf mid ys after end → AreLinesOf before (xs ++ ys) after end
lines_more None mid after xs ys None first then = tt
lines_more None mid after xs ys (Some ending.Input) first then = tt
lines_more None mid after xs ys (Some ending.Output) first then = tt
lines_more None mid after xs ys (Some ending.NoStream) first then = tt
lines_more None mid after xs ys (Some ending.NoThread) first then = tt
lines_more None mid after xs ys (Some ending.NoMemory) first then = tt
lines_more (Some bs) None after xs ys end first then = absurd first
lines_more (Some bs) (Some cs) None xs ys None first then = absurd then
lines_more (Some bs) (Some cs) (Some ds) xs ys None first then = first ∙ ap (λ (l : List (List ℕ)). xs ++ l) then ∙ sym (append_assoc xs ys (answered_lines ds))
lines_more (Some bs) (Some cs) after xs ys (Some ending.Input) first then = first ∙ ap (λ (l : List (List ℕ)). xs ++ l) then
lines_more (Some bs) (Some cs) after xs ys (Some ending.Output) first then = more-prefix bs cs xs ys first then
lines_more (Some bs) (Some cs) after xs ys (Some ending.NoStream) first then = more-prefix bs cs xs ys first then
lines_more (Some bs) (Some cs) after xs ys (Some ending.NoThread) first then = more-prefix bs cs xs ys first then
lines_more (Some bs) (Some cs) after xs ys (Some ending.NoMemory) first then = more-prefix bs cs xs ys first then

no_lines_more : (held : Option (List ℕ)) → AreLinesTo held [] held
no_lines_more None = tt
no_lines_more (Some bs) = refl

pub turns_none : (pit : Pit) (max : ℕ) (at : Standing) (input output : Option (List ℕ)) → Turns pit max at at input input output output None 0
turns_none pit max at input output = record {
  told = [];
  cut = [];
  front = [];
  turns = refl;
  lines = no_lines_more input;
  is_cut = (refl, refl);
  output = appends_none output;
  count = refl;
}

pub turns_on : (pit : Pit) (max : ℕ) (old mid new : Standing) (input input_mid input_new output output_mid output_new : Option (List ℕ)) (end : Option SessionEnd) (first then : ℕ)
    → Turns pit max old mid input input_mid output output_mid None first → Turns pit max mid new input_mid input_new output_mid output_new end then
    → Turns pit max old new input input_new output output_new end (first + then)
turns_on pit max old mid new input input_mid input_new output output_mid output_new end first then f t =
    let uncut : f.told ++ f.cut ≡ f.told = ap (λ (l : List Turn). f.told ++ l) f.is_cut.0 ∙ append-nil f.told in
    let untold : replies_of f.told ++ f.front ≡ replies_of f.told = ap (λ (l : List ℕ). replies_of f.told ++ l) f.is_cut.1 ∙ append-nil (replies_of f.told) in
    let turned : AreTurns pit max old f.told mid = subst (λ (l : List Turn). AreTurns pit max old l mid) uncut f.turns in
    let lined : AreLinesTo input (lines_in f.told) input_mid = subst (λ (l : List Turn). AreLinesTo input (lines_in l) input_mid) uncut f.lines in
    let put : Appends output output_mid (replies_of f.told) = subst (λ (l : List ℕ). Appends output output_mid l) untold f.output in
    let all : (f.told ++ t.told) ++ t.cut ≡ f.told ++ (t.told ++ t.cut) = append_assoc f.told t.told t.cut in
    let texts : replies_of f.told ++ (replies_of t.told ++ t.front) ≡ replies_of (f.told ++ t.told) ++ t.front =
    sym (append_assoc (replies_of f.told) (replies_of t.told) t.front)
    ∙ ap (λ (l : List ℕ). l ++ t.front) (sym (flat_map-append (λ (u : Turn). answer_text u.answer) f.told t.told)) in
    let lines : lines_in f.told ++ lines_in (t.told ++ t.cut) ≡ lines_in ((f.told ++ t.told) ++ t.cut) =
    sym (map-append (λ (u : Turn). u.line) f.told (t.told ++ t.cut)) ∙ ap (λ (l : List Turn). lines_in l) (sym all) in
    record {
      told = f.told ++ t.told;
      cut = t.cut;
      front = t.front;
      turns = subst (λ (l : List Turn). AreTurns pit max old l new) (sym all) (turns-append pit max old f.told mid (t.told ++ t.cut) new turned t.turns);
      lines = subst (λ (l : List (List ℕ)). AreLinesOf input l input_new end) lines (lines_more input input_mid input_new (lines_in f.told) (lines_in (t.told ++ t.cut)) end lined t.lines);
      is_cut = t.is_cut;
      output = subst (λ (l : List ℕ). Appends output output_new l) texts (appends_more output output_mid output_new (replies_of f.told) (replies_of t.told ++ t.front) put t.output);
      count = ap (λ (n : ℕ). n + then) f.count ∙ ap (λ (n : ℕ). length f.told + n) t.count ∙ sym (length-append f.told t.told);
    }

lines_off : (before after : Option (List ℕ)) (lines : List (List ℕ)) → AreLinesTo before lines after → AreLinesOf before lines after (Some ending.NoStream)
lines_off None after lines are = tt
lines_off (Some bs) None lines are = absurd are
lines_off (Some bs) (Some cs) lines are = (answered_lines cs, sym are)

pub turns_off : (pit : Pit) (max : ℕ) (old new : Standing) (input input_new output output_new : Option (List ℕ)) (count : ℕ) → Turns pit max old new input input_new output output_new None count
    → Turns pit max old new input input_new output output_new (Some ending.NoStream) count
turns_off pit max old new input input_new output output_new count turns = record {
  told = turns.told;
  cut = turns.cut;
  front = turns.front;
  turns = turns.turns;
  lines = lines_off input input_new (lines_in (turns.told ++ turns.cut)) turns.lines;
  is_cut = turns.is_cut;
  output = turns.output;
  count = turns.count;
}
