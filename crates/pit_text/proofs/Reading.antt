-- How far a text was read.
use Rattle.std.proofs.Common.{◌≡◌, ◌⊎◌, inl, inr, List, [], ◌∷◌, ◌++◌, Result, Ok, Err, IsOk, ap, sym, ◌∙◌, subst, refl, append_assoc}
use Rattle.std.proofs.lemmas.Bool.{false≢true}
use Rattle.std.proofs.lemmas.List.{append-nil}
use Rattle.pit_text.specs.Cutting.{Cut}
use Rattle.pit_text.specs.Stands.{Judge, StandsFor, StandsTo, StopsAt, FailsFirst, NamesFault}
use Rattle.pit_text.specs.Inside.Stands.{IsReadTo, IsCauseOf}
use Rattle.pit_text.proofs.States.{states_more}

-- one more line
pub read_more : {F C : Type 0} (judge : Judge F C) (lines left after : List Cut) (line : Cut) (facts : List F) (fact : F) → IsReadTo judge lines left facts → left ≡ line ∷ after
    → judge facts line.fields ≡ Ok fact → IsReadTo judge lines after (facts ++ fact ∷ [])
read_more judge lines left after line facts fact read next is = record {
  done = read.done ++ line ∷ [];
  cut = read.cut ∙ ap (λ (ls : List Cut). read.done ++ ls) next ∙ sym (append_assoc read.done (line ∷ []) after);
  stands = states_more judge [] facts read.done line fact read.stands is;
}

-- nothing is left
pub read_all : {F C : Type 0} (judge : Judge F C) (lines left : List Cut) (facts : List F) → IsReadTo judge lines left facts → left ≡ [] → StandsFor judge lines facts
read_all judge lines left facts read none =
    subst (λ (ls : List Cut). StandsFor judge ls facts) (sym (read.cut ∙ ap (λ (ls : List Cut). read.done ++ ls) none ∙ append-nil read.done)) read.stands

pub read_left : {F C : Type 0} (judge : Judge F C) (lines left other : List Cut) (facts : List F) → left ≡ other → IsReadTo judge lines left facts → IsReadTo judge lines other facts
read_left judge lines left other facts same read = subst (λ (ls : List Cut). IsReadTo judge lines ls facts) same read

pub read_of : {F C : Type 0} (judge : Judge F C) (lines others left : List Cut) (facts : List F) → lines ≡ others → IsReadTo judge lines left facts → IsReadTo judge others left facts
read_of judge lines others left facts same read = subst (λ (ls : List Cut). IsReadTo judge ls left facts) same read

-- where nothing is left, no line comes next
pub no_line : (left : List Cut) (line : Cut) (after : List Cut) → left ≡ [] → left ≡ line ∷ after → ⊥
no_line left line after none next = cc

-- ---- where reading ends at a line

-- the line states a fact
pub read_stands : {F C : Type 0} (judge : Judge F C) (lines left after : List Cut) (line : Cut) (facts : List F) (fact : F) → IsReadTo judge lines left facts → left ≡ line ∷ after
    → judge facts line.fields ≡ Ok fact → StandsTo judge lines line.number (facts ++ fact ∷ [])
read_stands judge lines left after line facts fact read next is = record {
  before = read.done;
  line = line;
  after = after;
  cut = read.cut ∙ ap (λ (ls : List Cut). read.done ++ ls) next;
  stands = states_more judge [] facts read.done line fact read.stands is;
  number = refl;
}

-- it has a fault
pub read_fails : {F C : Type 0} (judge : Judge F C) (lines left after : List Cut) (line : Cut) (facts : List F) (cause : C) → IsReadTo judge lines left facts → left ≡ line ∷ after
    → judge facts line.fields ≡ Err cause → FailsFirst judge lines line.number cause
read_fails judge lines left after line facts cause read next wrong = record {
  before = read.done;
  line = line;
  after = after;
  facts = facts;
  cut = read.cut ∙ ap (λ (ls : List Cut). read.done ++ ls) next;
  stands = read.stands;
  number = refl;
  fails = wrong;
}

pub ok_fact : {X E : Type 0} (r : Result X E) → IsOk r → (x : X) × (r ≡ Ok x)
ok_fact (Ok x) ok = (x, refl)
ok_fact (Err e) ok = absurd (false≢true ok)

-- either of both
pub read_stops : {F C D : Type 0} (no_memory : C) (cause_of : D → C) (judge : Judge F D) (lines left after : List Cut) (line : Cut) (facts : List F) (cause : C) → IsReadTo judge lines left facts → left ≡ line ∷ after
    → IsCauseOf no_memory cause_of (judge facts line.fields) cause → ((cause ≡ no_memory) × StopsAt judge lines line.number) ⊎ NamesFault cause_of (FailsFirst judge lines line.number) cause
read_stops no_memory cause_of judge lines left after line facts cause read next (inl wanting) =
    let stated = ok_fact (judge facts line.fields) wanting.1 in
    inl (wanting.0, (facts ++ stated.0 ∷ [], read_stands judge lines left after line facts stated.0 read next stated.1))
read_stops no_memory cause_of judge lines left after line facts cause read next (inr wrong) =
    inr (wrong.0, wrong.1, read_fails judge lines left after line facts wrong.0 read next wrong.2)
