-- A text has one result.
use Rattle.std.proofs.Common.{inl, inr, ◌⊎◌, ◌≡◌, ℕ, List, [], ◌∷◌, ◌++◌, Result, Ok, Err, Option, Some, None, ap, sym, ◌∙◌, refl, subst, append_assoc}
use Rattle.std.proofs.lemmas.List.{append-nil}
use Rattle.pit_text.specs.Cutting.{Cut}
use Rattle.pit_text.specs.Stands.{Judge, EndTest, StatesAfter, StandsFor, FailsFirst, StandsWhole, FailsWhole, HasOneResult, NamesFault}
use Rattle.pit_text.proofs.States.{states_more}

pub states_one : {F C : Type 0} (judge : Judge F C) (earlier : List F) (lines : List Cut) (facts others : List F) → StatesAfter judge earlier lines facts → StatesAfter judge earlier lines others → facts ≡ others
states_one judge earlier [] facts others p q = p ∙ sym q
states_one judge earlier (l ∷ lines) [] others p q = absurd p
states_one judge earlier (l ∷ lines) (x ∷ facts) [] p q = absurd q
states_one judge earlier (l ∷ lines) (x ∷ facts) (y ∷ others) p q =
    let same : x ≡ y = cc in
    let rest : StatesAfter judge (earlier ++ x ∷ []) lines others = subst (λ z. StatesAfter judge (earlier ++ z ∷ []) lines others) (sym same) q.1 in
    ap (λ zs. x ∷ zs) (states_one judge (earlier ++ x ∷ []) lines facts others p.1 rest) ∙ ap (λ z. z ∷ others) same

pub states_no_fault : {F C : Type 0} (judge : Judge F C) (earlier : List F) (before : List Cut) (line : Cut) (after : List Cut) (facts all : List F) (cause : C) → StatesAfter judge earlier (before ++ line ∷ after) all → StatesAfter judge earlier before facts → judge (earlier ++ facts) line.fields ≡ Err cause → ⊥
states_no_fault judge earlier [] line after facts [] cause p q fails = p
states_no_fault judge earlier [] line after facts (x ∷ all) cause p q fails =
    let here : judge earlier line.fields ≡ Err cause = ap (λ fs. judge fs line.fields) (sym (ap (λ fs. earlier ++ fs) q ∙ append-nil earlier)) ∙ fails in
    cc
states_no_fault judge earlier (l ∷ before) line after facts [] cause p q fails = p
states_no_fault judge earlier (l ∷ before) line after [] (x ∷ all) cause p q fails = q
states_no_fault judge earlier (l ∷ before) line after (y ∷ facts) (x ∷ all) cause p q fails =
    let same : y ≡ x = cc in
    let rest : StatesAfter judge (earlier ++ y ∷ []) (before ++ line ∷ after) all = subst (λ z. StatesAfter judge (earlier ++ z ∷ []) (before ++ line ∷ after) all) (sym same) p.1 in
    states_no_fault judge (earlier ++ y ∷ []) before line after facts all cause rest q.1 (ap (λ fs. judge fs line.fields) (append_assoc earlier (y ∷ []) facts) ∙ fails)

pub no_fault : {F C : Type 0} (judge : Judge F C) (lines : List Cut) (facts : List F) (place : ℕ) (cause : C) → StandsFor judge lines facts → FailsFirst judge lines place cause → ⊥
no_fault judge lines facts place cause stands fails =
    states_no_fault judge [] fails.before fails.line fails.after fails.facts facts cause
    (subst (λ (ls : List Cut). StatesAfter judge [] ls facts) fails.cut stands) fails.stands fails.fails

-- from two first lines that fail
one_split : {F C : Type 0} (judge : Judge F C) (earlier : List F) (before others : List Cut) (line other : Cut) (after rest : List Cut) (facts states : List F) (cause why : C)
    → before ++ line ∷ after ≡ others ++ other ∷ rest
    → StatesAfter judge earlier before facts → StatesAfter judge earlier others states
    → judge (earlier ++ facts) line.fields ≡ Err cause → judge (earlier ++ states) other.fields ≡ Err why
    → (line.number ≡ other.number) × (cause ≡ why)
one_split judge earlier [] [] line other after rest facts states cause why cut p q f g =
    let same : line ≡ other = cc in
    let here : judge earlier line.fields ≡ Err cause = ap (λ fs. judge fs line.fields) (sym (ap (λ fs. earlier ++ fs) p ∙ append-nil earlier)) ∙ f in
    let there : judge earlier other.fields ≡ Err why = ap (λ fs. judge fs other.fields) (sym (ap (λ fs. earlier ++ fs) q ∙ append-nil earlier)) ∙ g in
    let there' : judge earlier line.fields ≡ Err why = ap (λ (l : Cut). judge earlier l.fields) same ∙ there in
    (ap (λ (l : Cut). l.number) same, cc)
one_split judge earlier [] (o ∷ others) line other after rest facts [] cause why cut p q f g = absurd q
one_split judge earlier [] (o ∷ others) line other after rest facts (y ∷ states) cause why cut p q f g =
    let same : line ≡ o = cc in
    let here : judge earlier line.fields ≡ Err cause = ap (λ fs. judge fs line.fields) (sym (ap (λ fs. earlier ++ fs) p ∙ append-nil earlier)) ∙ f in
    let there : judge earlier line.fields ≡ Ok y = ap (λ (l : Cut). judge earlier l.fields) same ∙ q.0 in
    let clash : ⊥ = cc in absurd clash
one_split judge earlier (l ∷ before) [] line other after rest [] states cause why cut p q f g = absurd p
one_split judge earlier (l ∷ before) [] line other after rest (x ∷ facts) states cause why cut p q f g =
    let same : l ≡ other = cc in
    let here : judge earlier other.fields ≡ Err why = ap (λ fs. judge fs other.fields) (sym (ap (λ fs. earlier ++ fs) q ∙ append-nil earlier)) ∙ g in
    let there : judge earlier other.fields ≡ Ok x = sym (ap (λ (c : Cut). judge earlier c.fields) same) ∙ p.0 in
    let clash : ⊥ = cc in absurd clash
one_split judge earlier (l ∷ before) (o ∷ others) line other after rest [] states cause why cut p q f g = absurd p
one_split judge earlier (l ∷ before) (o ∷ others) line other after rest (x ∷ facts) [] cause why cut p q f g = absurd q
one_split judge earlier (l ∷ before) (o ∷ others) line other after rest (x ∷ facts) (y ∷ states) cause why cut p q f g =
    let head : l ≡ o = cc in
    let tail : before ++ line ∷ after ≡ others ++ other ∷ rest = cc in
    let there : judge earlier l.fields ≡ Ok y = ap (λ (c : Cut). judge earlier c.fields) head ∙ q.0 in
    let same : x ≡ y = cc in
    let more : StatesAfter judge (earlier ++ x ∷ []) others states = subst (λ z. StatesAfter judge (earlier ++ z ∷ []) others states) (sym same) q.1 in
    one_split judge (earlier ++ x ∷ []) before others line other after rest facts states cause why tail p.1 more
    (ap (λ fs. judge fs line.fields) (append_assoc earlier (x ∷ []) facts) ∙ f)
    (ap (λ fs. judge fs other.fields) (append_assoc earlier (x ∷ []) states ∙ ap (λ z. earlier ++ z ∷ states) same) ∙ g)

-- a text has one fault at most
pub one_fault : {F C : Type 0} (judge : Judge F C) (lines : List Cut) (place other : ℕ) (cause why : C)
    → FailsFirst judge lines place cause → FailsFirst judge lines other why → (place ≡ other) × (cause ≡ why)
one_fault judge lines place other cause why f g =
    let one : (f.line.number ≡ g.line.number) × (cause ≡ why) = one_split judge [] f.before g.before f.line g.line f.after g.after f.facts g.facts cause why (sym f.cut ∙ g.cut) f.stands g.stands f.fails g.fails in
    (f.number ∙ (one.0 ∙ sym g.number), one.1)

-- ---- there is a result

abbrev Some_result : {F C : Type 0} → Judge F C → List Cut → Type 0
Some_result {F} {C} judge lines = ((facts : List F) × StandsFor judge lines facts) ⊎ ((place : ℕ) × (cause : C) × FailsFirst judge lines place cause)

-- by what the next line is judged to be
by_next : {F C : Type 0} (judge : Judge F C) (lines done : List Cut) (line : Cut) (left : List Cut) (facts : List F) (answer : Result F C)
    → judge facts line.fields ≡ answer → lines ≡ done ++ line ∷ left → StandsFor judge done facts
    → ((fact : F) → judge facts line.fields ≡ Ok fact → Some_result judge lines) → Some_result judge lines
by_next judge lines done line left facts (Ok fact) is cut stands goes_on = goes_on fact is
by_next judge lines done line left facts (Err cause) is cut stands goes_on =
    inr (line.number, cause, record { before = done; line = line; after = left; facts = facts; cut = cut; stands = stands; number = refl; fails = is })

-- from the lines that were read on
result_from : {F C : Type 0} (judge : Judge F C) (lines done left : List Cut) (facts : List F) → lines ≡ done ++ left → StandsFor judge done facts → Some_result judge lines
result_from judge lines done [] facts cut stands =
    inl (facts, subst (λ (ls : List Cut). StandsFor judge ls facts) (sym (cut ∙ append-nil done)) stands)
result_from judge lines done (line ∷ left) facts cut stands =
    by_next judge lines done line left facts (judge facts line.fields) refl cut stands
    (λ fact is. result_from judge lines (done ++ line ∷ []) left (facts ++ fact ∷ []) (cut ∙ sym (append_assoc done (line ∷ []) left)) (states_more judge [] facts done line fact stands is))

pub one_result : {F C : Type 0} (judge : Judge F C) (lines : List Cut) → HasOneResult (StandsFor judge lines) (FailsFirst judge lines)
one_result judge lines = record {
  some = result_from judge lines [] lines [] refl refl;
  facts = λ facts others p q. states_one judge [] lines facts others p q;
  apart = λ facts place cause p q. no_fault judge lines facts place cause p q;
  places = λ place other cause why p q. (one_fault judge lines place other cause why p q).0;
  causes = λ place other cause why p q. (one_fault judge lines place other cause why p q).1;
}

-- ---- with a test of the end

abbrev Some_whole_result : {F C : Type 0} → Judge F C → EndTest F C → List Cut → ℕ → Type 0
Some_whole_result {F} {C} judge end_test lines end = ((facts : List F) × StandsWhole judge end_test lines facts) ⊎ ((place : ℕ) × (cause : C) × FailsWhole judge end_test lines end place cause)

by_end : {F C : Type 0} (judge : Judge F C) (end_test : EndTest F C) (lines : List Cut) (end : ℕ) (facts : List F) (answer : Option C)
    → end_test facts ≡ answer → StandsFor judge lines facts → Some_whole_result judge end_test lines end
by_end judge end_test lines end facts None is stands = inl (facts, record { stands = stands; whole = is })
by_end judge end_test lines end facts (Some cause) is stands =
    inr (end, cause, inr (record { facts = facts; stands = stands; number = refl; wanting = is }))

by_lines : {F C : Type 0} (judge : Judge F C) (end_test : EndTest F C) (lines : List Cut) (end : ℕ) → Some_result judge lines → Some_whole_result judge end_test lines end
by_lines judge end_test lines end (inl (facts, stands)) = by_end judge end_test lines end facts (end_test facts) refl stands
by_lines judge end_test lines end (inr (place, cause, fails)) = inr (place, cause, inl fails)

-- what stands for the same facts ends the same way
same_end : {F C : Type 0} (judge : Judge F C) (end_test : EndTest F C) (lines : List Cut) (facts others : List F) → StandsFor judge lines facts → StandsFor judge lines others → end_test facts ≡ end_test others
same_end judge end_test lines facts others p q = ap end_test (states_one judge [] lines facts others p q)

whole_apart : {F C : Type 0} (judge : Judge F C) (end_test : EndTest F C) (lines : List Cut) (end : ℕ) (facts : List F) (place : ℕ) (cause : C)
    → StandsWhole judge end_test lines facts → FailsWhole judge end_test lines end place cause → ⊥
whole_apart judge end_test lines end facts place cause p (inl q) = no_fault judge lines facts place cause p.stands q
whole_apart judge end_test lines end facts place cause p (inr q) =
    let clash : None ≡ Some cause = sym p.whole ∙ same_end judge end_test lines facts q.facts p.stands q.stands ∙ q.wanting in cc

whole_fault : {F C : Type 0} (judge : Judge F C) (end_test : EndTest F C) (lines : List Cut) (end place other : ℕ) (cause why : C)
    → FailsWhole judge end_test lines end place cause → FailsWhole judge end_test lines end other why → (place ≡ other) × (cause ≡ why)
whole_fault judge end_test lines end place other cause why (inl p) (inl q) = one_fault judge lines place other cause why p q
whole_fault judge end_test lines end place other cause why (inl p) (inr q) = absurd (no_fault judge lines q.facts place cause q.stands p)
whole_fault judge end_test lines end place other cause why (inr p) (inl q) = absurd (no_fault judge lines p.facts other why p.stands q)
whole_fault judge end_test lines end place other cause why (inr p) (inr q) =
    let same : Some cause ≡ Some why = sym p.wanting ∙ same_end judge end_test lines p.facts q.facts p.stands q.stands ∙ q.wanting in
    (p.number ∙ sym q.number, cc)

pub one_whole_result : {F C : Type 0} (judge : Judge F C) (end_test : EndTest F C) (lines : List Cut) (end : ℕ) → HasOneResult (StandsWhole judge end_test lines) (FailsWhole judge end_test lines end)
one_whole_result judge end_test lines end = record {
  some = by_lines judge end_test lines end (one_result judge lines).some;
  facts = λ facts others p q. states_one judge [] lines facts others p.stands q.stands;
  apart = λ facts place cause p q. whole_apart judge end_test lines end facts place cause p q;
  places = λ place other cause why p q. (whole_fault judge end_test lines end place other cause why p q).0;
  causes = λ place other cause why p q. (whole_fault judge end_test lines end place other cause why p q).1;
}

-- its fault, by the cause that is answered
named_some : {F C D : Type 0} (cause_of : D → C) (Stands : List F → Type 0) (Fails : ℕ → D → Type 0) → ((facts : List F) × Stands facts) ⊎ ((place : ℕ) × (fault : D) × Fails place fault)
    → ((facts : List F) × Stands facts) ⊎ ((place : ℕ) × (cause : C) × NamesFault cause_of (Fails place) cause)
named_some cause_of Stands Fails (inl found) = inl found
named_some cause_of Stands Fails (inr bad) = inr (bad.0, cause_of bad.1, (bad.1, refl, bad.2))

pub named-result : {F C D : Type 0} (cause_of : D → C) (Stands : List F → Type 0) (Fails : ℕ → D → Type 0) → HasOneResult Stands Fails → HasOneResult Stands (λ place. NamesFault cause_of (Fails place))
named-result cause_of Stands Fails one = record {
  some = named_some cause_of Stands Fails one.some;
  facts = one.facts;
  apart = λ facts place cause p q. one.apart facts place q.0 p q.2;
  places = λ place other cause why p q. one.places place other p.0 q.0 p.2 q.2;
  causes = λ place other cause why p q. p.1 ∙ ap cause_of (one.causes place other p.0 q.0 p.2 q.2) ∙ sym q.1;
}
