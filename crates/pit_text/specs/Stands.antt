-- When the lines of a text stand for facts, and when for a fault.
use Rattle.std.specs.Prelude.{◌≡◌, ℕ, List, [], ◌∷◌, ◌++◌, Result, Ok, Err, Option, Some, None, ◌⊎◌}
use Rattle.pit_text.specs.Cutting.{Cut}

infixl 10 ◌>>=◌
abbrev pub ◌>>=◌ : {A B E : Type 0} → Result A E → (A → Result B E) → Result B E
(Ok x) >>= f = f x
(Err e) >>= f = Err e

-- how a line is judged: by the facts of the lines before it and its fields
abbrev pub Judge : Type 0 → Type 0 → Type 0
Judge F C = List F → List (List ℕ) → Result F C

-- how the end of a text is judged: by the facts of all lines; what is missing, if anything
abbrev pub EndTest : Type 0 → Type 0 → Type 0
EndTest F C = List F → Option C

-- each line states its fact, where the earlier lines stated these
abbrev pub StatesAfter : {F C : Type 0} → Judge F C → List F → List Cut → List F → Type 0
StatesAfter judge earlier [] facts = facts ≡ []
StatesAfter judge earlier (line ∷ lines) [] = ⊥
StatesAfter judge earlier (line ∷ lines) (fact ∷ facts) =
    (judge earlier line.fields ≡ Ok fact) × StatesAfter judge (earlier ++ fact ∷ []) lines facts

-- the lines stand for the facts
abbrev pub StandsFor : {F C : Type 0} → Judge F C → List Cut → List F → Type 0
StandsFor judge lines facts = StatesAfter judge [] lines facts

-- The fault is that of the first line that fails: those before it stand for facts.
pub record FailsFirst {F C : Type 0} (judge : Judge F C) (lines : List Cut) (place : ℕ) (cause : C) : Type 0 where
  pub before : List Cut
  pub line : Cut
  pub after : List Cut
  pub facts : List F
  pub cut : lines ≡ before ++ line ∷ after
  pub stands : StandsFor judge before facts
  pub number : place ≡ line.number
  pub fails : judge facts line.fields ≡ Err cause

-- The lines up to the one of this number, and that one too, stand for the facts.
pub record StandsTo {F C : Type 0} (judge : Judge F C) (lines : List Cut) (place : ℕ) (facts : List F) : Type 0 where
  pub before : List Cut
  pub line : Cut
  pub after : List Cut
  pub cut : lines ≡ before ++ line ∷ after
  pub stands : StandsFor judge (before ++ line ∷ []) facts
  pub number : place ≡ line.number

-- Memory runs out at a line: neither it nor a line before it has a fault.
abbrev pub StopsAt : {F C : Type 0} → Judge F C → List Cut → ℕ → Type 0
StopsAt {F} judge lines place = (facts : List F) × StandsTo judge lines place facts

-- The lines stand for the facts, and nothing is missing at the end.
pub record StandsWhole {F C : Type 0} (judge : Judge F C) (end_test : EndTest F C) (lines : List Cut) (facts : List F) : Type 0 where
  pub stands : StandsFor judge lines facts
  pub whole : end_test facts ≡ None

-- The fault is that of the end: each line states its fact, and something is missing.
pub record FailsAtEnd {F C : Type 0} (judge : Judge F C) (end_test : EndTest F C) (lines : List Cut) (end : ℕ) (place : ℕ) (cause : C) : Type 0 where
  pub facts : List F
  pub stands : StandsFor judge lines facts
  pub number : place ≡ end
  pub wanting : end_test facts ≡ Some cause

-- the first fault of a text whose end is judged too
abbrev pub FailsWhole : {F C : Type 0} → Judge F C → EndTest F C → List Cut → ℕ → ℕ → C → Type 0
FailsWhole judge end_test lines end place cause =
    FailsFirst judge lines place cause ⊎ FailsAtEnd judge end_test lines end place cause

-- The cause names a fault, and this holds of it.
abbrev pub NamesFault : {C D : Type 0} → (D → C) → (D → Type 0) → C → Type 0
NamesFault {C} {D} cause_of Holds cause = (fault : D) × (cause ≡ cause_of fault) × Holds fault

-- There is one result, facts or a fault, and only one.
pub record HasOneResult {F C : Type 0} (Stands : List F → Type 0) (Fails : ℕ → C → Type 0) : Type 0 where
  pub some : ((facts : List F) × Stands facts) ⊎ ((place : ℕ) × (cause : C) × Fails place cause)
  pub facts : (facts others : List F) → Stands facts → Stands others → facts ≡ others
  pub apart : (facts : List F) (place : ℕ) (cause : C) → Stands facts → Fails place cause → ⊥
  pub places : (place other : ℕ) (cause why : C) → Fails place cause → Fails other why → place ≡ other
  pub causes : (place other : ℕ) (cause why : C) → Fails place cause → Fails other why → cause ≡ why
