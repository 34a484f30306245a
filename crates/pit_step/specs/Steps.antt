-- The steps of a run, one behind the other, and the run's first fault.
use Rattle.std.specs.Prelude.{◌≡◌, ◌≢◌, ◌⊎◌, ℕ, ◌+◌, List, [], ◌∷◌, Result, MatchResult, ⊤}

-- A step uses devices. As these show it, it gives a value of what it was given, or has a fault, or has left them alone.
pub record Step (F A B : Type 0) : Type 1 where
  pub Gives : A → B → Type 0
  pub Fails : A → F → Type 0
  pub IsUntouched : Type 0

-- One step and then another, which is given what the first one gives. The first fault is that of the first step, and the devices of the
-- other are left alone; or, where the first step gives a value, that of the other.
abbrev pub in_turn : {F A B C : Type 0} → Step F A B → Step F B C → Step F A C
in_turn {F} {A} {B} {C} first next = record {
  Gives = λ given value. (between : B) × first.Gives given between × next.Gives between value;
  Fails = λ given fault.
      (first.Fails given fault × next.IsUntouched) ⊎ ((between : B) × first.Gives given between × next.Fails between fault);
  IsUntouched = first.IsUntouched × next.IsUntouched;
}

-- a step that hands on what it was given beside what it gives
abbrev pub beside : {F A B : Type 0} → Step F A B → Step F A (A × B)
beside step = record {
  Gives = λ given both. (both.0 ≡ given) × step.Gives given both.1;
  Fails = step.Fails;
  IsUntouched = step.IsUntouched;
}

-- a step to which something is added that is carried along
abbrev pub carrying : {F A B C : Type 0} → Step F A B → Step F (A × C) (B × C)
carrying step = record {
  Gives = λ given value. step.Gives given.0 value.0 × (value.1 ≡ given.1);
  Fails = λ given fault. step.Fails given.0 fault;
  IsUntouched = step.IsUntouched;
}

-- what is given decides which run it is; where there is none, its devices are left alone so
abbrev pub run_step : {F A B : Type 0} → (A → Step F (Unit {0}) B) → Type 0 → Step F A B
run_step run IsUntouched = record {
  Gives = λ given. (run given).Gives tt;
  Fails = λ given. (run given).Fails tt;
  IsUntouched = IsUntouched;
}

-- a judgement, which uses no device
abbrev pub judge_step : {F A B : Type 0} → (A → B → Type 0) → (A → F → Type 0) → Step F A B
judge_step Gives Fails = record { Gives = Gives; Fails = Fails; IsUntouched = Unit {0} }

-- what is given is handed on where it passes
abbrev pub pass_step : {F A : Type 0} → (A → Type 0) → (A → F → Type 0) → Step F A A
pass_step Passes Fails = judge_step (λ given value. (value ≡ given) × Passes given) Fails

-- this fault may come, whatever is given
abbrev pub may_step : {F A : Type 0} → F → Step F A A
may_step fault = pass_step (λ given. ⊤) (λ given other. other ≡ fault)

-- no item; or the value of an item before those of the others
abbrev pub AreFollowed : {B : Type 0} → (B → Type 0) → (List B → Type 0) → List B → Type 0
AreFollowed IsFirst AreOthers [] = ⊥
AreFollowed IsFirst AreOthers (value ∷ others) = IsFirst value × AreOthers others

-- The same for each of a list in turn, numbered from this one on. The first fault is that of the first item that has one.
abbrev pub each : {F A B : Type 0} → (ℕ → A → Step F (Unit {0}) B) → ℕ → List A → Step F (Unit {0}) (List B)
each step number [] = record { Gives = λ given values. values ≡ []; Fails = λ given fault. ⊥; IsUntouched = Unit {0} }
each {F} {A} {B} step number (item ∷ items) = record {
  Gives = λ given. AreFollowed ((step number item).Gives tt) ((each step (number + 1) items).Gives tt);
  Fails = λ given fault.
      ((step number item).Fails tt fault × (each step (number + 1) items).IsUntouched)
      ⊎ ((value : B) × (step number item).Gives tt value × (each step (number + 1) items).Fails tt fault);
  IsUntouched = (step number item).IsUntouched × (each step (number + 1) items).IsUntouched;
}

-- For each of a list in turn, numbered from this one on: the first item is given what is given to all, and each other item what the one before it
-- gives.
abbrev pub through : {F A B : Type 0} → (ℕ → A → Step F B B) → ℕ → List A → Step F B B
through step number [] = pass_step (λ given. ⊤) (λ given fault. ⊥)
through step number (item ∷ items) = in_turn (step number item) (through step (number + 1) items)

-- the result is a value that the step gives, or a fault that it has
abbrev pub IsResultOf : {F A B : Type 0} → Step F A B → A → Result B F → Type 0
IsResultOf step given result = MatchResult result (step.Gives given) (step.Fails given)

-- the step, where its fault isn't out of memory
abbrev pub want_aside : {F A B : Type 0} → F → Step F A B → Step F A B
want_aside no_memory step = record {
  Gives = step.Gives;
  Fails = λ given fault. (fault ≢ no_memory) × step.Fails given fault;
  IsUntouched = step.IsUntouched;
}

-- A run gives a value or has a fault, never both, and never two of either. No device shows that memory ran out, so this is left out of two faults.
pub record HasOneOutcome {F B : Type 0} (no_memory : F) (run : Step F (Unit {0}) B) : Type 0 where
  pub values : (value other : B) → run.Gives tt value → run.Gives tt other → value ≡ other
  pub apart : (value : B) (fault : F) → run.Gives tt value → run.Fails tt fault → ⊥
  pub faults : (fault other : F) → fault ≢ no_memory → other ≢ no_memory → run.Fails tt fault → run.Fails tt other → fault ≡ other
