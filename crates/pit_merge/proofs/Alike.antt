-- Two runs of a step, which may be one: what matters of what they are given determines what matters of their value, and their fault.
use Rattle.std.proofs.Common.{◌≡◌, inl, inr, ℕ, ◌+◌, List, [], ◌∷◌, refl, sym, ap, subst, ◌∙◌}
use Rattle.std.specs.Prelude.{⊤}
use Rattle.pit_step.specs.declared.input.Input.{Input}
use Rattle.pit_step.specs.declared.fault.CliFault.{CliFault}
use Rattle.pit_step.specs.Steps.{Step, in_turn, beside, judge_step, pass_step, run_step, through}
use Rattle.pit_step.specs.Devices.{Reading, input_step}
use Rattle.pit_step.proofs.CallerLemmas.{IsDetermined, IsSeen, IsOneText}
use Rattle.pit_merge.proofs.Readings.{AreReadAlike}

-- it is one, and so is the fault that is due, and none is due to one run where the other gives a value; faults of another kind are left aside
pub record AreAlike {F A B K L : Type 0} (Due : F → Type 0) (matter : A → K) (shown : B → L) (step again : Step F A B) : Type 0 where
  pub values : (given more : A) (value other : B) → matter given ≡ matter more → step.Gives given value → again.Gives more other → shown value ≡ shown other
  pub apart : (given more : A) (value : B) (fault : F) → Due fault → matter given ≡ matter more → step.Gives given value → again.Fails more fault → ⊥
  pub parted : (given more : A) (value : B) (fault : F) → Due fault → matter given ≡ matter more → again.Gives more value → step.Fails given fault → ⊥
  pub faults : (given more : A) (fault other : F) → Due fault → Due other → matter given ≡ matter more → step.Fails given fault → again.Fails more other → fault ≡ other

-- where fewer faults are due
pub fewer-alike : {F A B K L : Type 0} (Due Fewer : F → Type 0) (matter : A → K) (shown : B → L) (step again : Step F A B) → ((fault : F) → Fewer fault → Due fault) → AreAlike Due matter shown step again
    → AreAlike Fewer matter shown step again
fewer-alike Due Fewer matter shown step again due alike = record {
  values = alike.values;
  apart = λ given more value fault is same p q. alike.apart given more value fault (due fault is) same p q;
  parted = λ given more value fault is same p q. alike.parted given more value fault (due fault is) same p q;
  faults = λ given more fault other is too same p q. alike.faults given more fault other (due fault is) (due other too) same p q;
}

-- ---- one run, where all matters

pub alike-determined : {F A B K : Type 0} (Due : F → Type 0) (matter : A → K) (step : Step F A B) (given : A) → AreAlike {L = B} Due matter (λ value. value) step step → IsDetermined Due step given
alike-determined Due matter step given alike = record {
  values = λ value other p q. alike.values given given value other refl p q;
  apart = λ value fault due p q. alike.apart given given value fault due refl p q;
  faults = λ fault other due also p q. alike.faults given given fault other due also refl p q;
}

pub determined-alike : {F A B : Type 0} (Due : F → Type 0) (step : Step F A B) → ((given : A) → IsDetermined Due step given) → AreAlike {K = A} {L = B} Due (λ given. given) (λ value. value) step step
determined-alike {F} {A} {B} Due step one = record {
  values = λ given more value other same p q. (one more).values value other (subst (λ (a : A). step.Gives a value) same p) q;
  apart = λ given more value fault due same p q. (one more).apart value fault due (subst (λ (a : A). step.Gives a value) same p) q;
  parted = λ given more value fault due same p q. (one given).apart value fault due (subst (λ (a : A). step.Gives a value) (sym same) p) q;
  faults = λ given more fault other due also same p q. (one more).faults fault other due also (subst (λ (a : A). step.Fails a fault) same p) q;
}

-- a text that stands for one value or has one fault, by what it is judged on
pub text-alike : {A B : Type 0} (Stands : A → B → Type 0) (IsFault : A → CliFault → Type 0) → ((given : A) → IsOneText (Stands given) (IsFault given))
    → AreAlike {K = A} {L = B} IsSeen (λ given. given) (λ value. value) (judge_step Stands IsFault) (judge_step Stands IsFault)
text-alike Stands IsFault one = determined-alike IsSeen (judge_step Stands IsFault) (λ given. record { values = (one given).values; apart = (one given).apart; faults = (one given).faults })

-- ---- one step and then another

module _ {F A B C K L M : Type 0} (Due : F → Type 0) (matter : A → K) (between : B → L) (shown : C → M) (first second : Step F A B) (next last : Step F B C) (one : AreAlike Due matter between first second)
    (then : AreAlike Due between shown next last) where
  turn-apart : (given more : A) (value : C) (fault : F) → Due fault → matter given ≡ matter more → (in_turn first next).Gives given value → (in_turn second last).Fails more fault → ⊥
  turn-apart given more value fault due same p (inl q) = one.apart given more p.0 fault due same p.1 q.0
  turn-apart given more value fault due same p (inr q) = then.apart p.0 q.0 value fault due (one.values given more p.0 q.0 same p.1 q.1) p.2 q.2

  turn-parted : (given more : A) (value : C) (fault : F) → Due fault → matter given ≡ matter more → (in_turn second last).Gives more value → (in_turn first next).Fails given fault → ⊥
  turn-parted given more value fault due same p (inl q) = one.parted given more p.0 fault due same p.1 q.0
  turn-parted given more value fault due same p (inr q) = then.parted q.0 p.0 value fault due (one.values given more q.0 p.0 same q.1 p.1) p.2 q.2

  turn-faults : (given more : A) (fault other : F) → Due fault → Due other → matter given ≡ matter more → (in_turn first next).Fails given fault → (in_turn second last).Fails more other → fault ≡ other
  turn-faults given more fault other due also same (inl p) (inl q) = one.faults given more fault other due also same p.0 q.0
  turn-faults given more fault other due also same (inl p) (inr q) = absurd (one.parted given more q.0 fault due same q.1 p.0)
  turn-faults given more fault other due also same (inr p) (inl q) = absurd (one.apart given more p.0 other also same p.1 q.0)
  turn-faults given more fault other due also same (inr p) (inr q) = then.faults p.0 q.0 fault other due also (one.values given more p.0 q.0 same p.1 q.1) p.2 q.2

  pub in_turn-alike : AreAlike Due matter shown (in_turn first next) (in_turn second last)
  in_turn-alike = record {
    values = λ given more value other same p q. then.values p.0 q.0 value other (one.values given more p.0 q.0 same p.1 q.1) p.2 q.2;
    apart = turn-apart;
    parted = turn-parted;
    faults = turn-faults;
  }

-- ---- beside what was given

pub beside-alike : {F A B : Type 0} (Due : F → Type 0) (step again : Step F A B) → AreAlike {K = A} {L = B} Due (λ given. given) (λ value. value) step again
    → AreAlike {K = A} {L = A × B} Due (λ given. given) (λ value. value) (beside step) (beside again)
beside-alike {F} {A} {B} Due step again alike = record {
  values = λ given more value other same p q.
      ap (λ (a : A). (a, value.1)) (p.0 ∙ (same ∙ sym q.0)) ∙ ap (λ (b : B). (other.0, b)) (alike.values given more value.1 other.1 same p.1 q.1);
  apart = λ given more value fault due same p q. alike.apart given more value.1 fault due same p.1 q;
  parted = λ given more value fault due same p q. alike.parted given more value.1 fault due same p.1 q;
  faults = alike.faults;
}

-- ---- what is given, where it passes and has no fault

pub pass-alike : {F A K : Type 0} (Due : F → Type 0) (matter : A → K) (Passes : A → Type 0) (Fails : A → F → Type 0) → ((given : A) (fault : F) → Fails given fault → ⊥)
    → AreAlike Due matter matter (pass_step Passes Fails) (pass_step Passes Fails)
pass-alike Due matter Passes Fails never = record {
  values = λ given more value other same p q. ap matter p.0 ∙ (same ∙ sym (ap matter q.0));
  apart = λ given more value fault due same p q. never more fault q;
  parted = λ given more value fault due same p q. never given fault q;
  faults = λ given more fault other due also same p q. absurd (never given fault p);
}

-- ---- what matters of the given decides which run it is

pub run-alike : {F A B K : Type 0} (Due : F → Type 0) (matter : A → K) (run again : K → Step F (Unit {0}) B) (IsLeft IsLeftAgain : Type 0)
    → ((k : K) → AreAlike {K = Unit {0}} {L = B} Due (λ given. given) (λ value. value) (run k) (again k))
    → AreAlike {L = B} Due matter (λ value. value) (run_step (λ (given : A). run (matter given)) IsLeft) (run_step (λ (given : A). again (matter given)) IsLeftAgain)
run-alike {F} {A} {B} {K} Due matter run again IsLeft IsLeftAgain one = record {
  values = λ given more value other same p q. (one (matter more)).values tt tt value other refl (subst (λ (k : K). (run k).Gives tt value) same p) q;
  apart = λ given more value fault due same p q. (one (matter more)).apart tt tt value fault due refl (subst (λ (k : K). (run k).Gives tt value) same p) q;
  parted = λ given more value fault due same p q. (one (matter more)).parted tt tt value fault due refl p (subst (λ (k : K). (run k).Fails tt fault) same q);
  faults = λ given more fault other due also same p q. (one (matter more)).faults tt tt fault other due also refl (subst (λ (k : K). (run k).Fails tt fault) same p) q;
}

-- ---- for each of two lists in turn

-- both are as long, and so it is of each two in a place
abbrev pub AreEach : {A : Type 0} → (A → A → Type 0) → List A → List A → Type 0
AreEach AreSame [] [] = ⊤
AreEach AreSame [] (other ∷ others) = ⊥
AreEach AreSame (item ∷ items) [] = ⊥
AreEach AreSame (item ∷ items) (other ∷ others) = AreSame item other × AreEach AreSame items others

module _ {F A B K : Type 0} (Due : F → Type 0) (matter : B → K) (step : ℕ → A → Step F B B) (AreSame : A → A → Type 0)
    (one : (number : ℕ) (item other : A) → AreSame item other → AreAlike Due matter matter (step number item) (step number other)) where
  pub through-alike : (number : ℕ) (items others : List A) → AreEach AreSame items others → AreAlike Due matter matter (through step number items) (through step number others)
  through-alike number [] [] are = pass-alike Due matter (λ (given : B). ⊤) (λ (given : B) (fault : F). ⊥) (λ given fault p. p)
  through-alike number [] (other ∷ others) are = absurd are
  through-alike number (item ∷ items) [] are = absurd are
  through-alike number (item ∷ items) (other ∷ others) are =
      in_turn-alike Due matter matter matter (step number item) (step number other) (through step (number + 1) items) (through step (number + 1) others) (one number item other are.0)
      (through-alike (number + 1) items others are.1)

-- ---- an input, by what its text determines

module _ {A B K L : Type 0} (Due : CliFault → Type 0) (seen : (fault : CliFault) → Due fault → IsSeen fault) (matter : A → K) (shown : B → L) (file : Input) (source again : Reading)
    (Stands : A → List ℕ → B → Type 0) (IsFault : A → List ℕ → CliFault → Type 0) (read : AreReadAlike Due file source again)
    (one : (text : List ℕ) → AreAlike IsSeen matter shown (judge_step (λ given value. Stands given text value) (λ given fault. IsFault given text fault))
    (judge_step (λ given value. Stands given text value) (λ given fault. IsFault given text fault))) where
  input-apart : (given more : A) (value : B) (fault : CliFault) → Due fault → matter given ≡ matter more → (input_step file source Stands IsFault).Gives given value
      → (input_step file again Stands IsFault).Fails more fault → ⊥
  input-apart given more value fault due same p (inl q) = read.apart p.0 fault due p.1 q
  input-apart given more value fault due same p (inr q) =
      (one q.0).apart given more value fault (seen fault due) same (subst (λ (text : List ℕ). Stands given text value) (read.texts p.0 q.0 p.1 q.1) p.2) q.2

  input-parted : (given more : A) (value : B) (fault : CliFault) → Due fault → matter given ≡ matter more → (input_step file again Stands IsFault).Gives more value
      → (input_step file source Stands IsFault).Fails given fault → ⊥
  input-parted given more value fault due same p (inl q) = read.parted p.0 fault due p.1 q
  input-parted given more value fault due same p (inr q) =
      (one p.0).parted given more value fault (seen fault due) same p.2 (subst (λ (text : List ℕ). IsFault given text fault) (read.texts q.0 p.0 q.1 p.1) q.2)

  input-faults : (given more : A) (fault other : CliFault) → Due fault → Due other → matter given ≡ matter more → (input_step file source Stands IsFault).Fails given fault
      → (input_step file again Stands IsFault).Fails more other → fault ≡ other
  input-faults given more fault other due also same (inl p) (inl q) = read.faults fault other due also p q
  input-faults given more fault other due also same (inl p) (inr q) = absurd (read.parted q.0 fault due q.1 p)
  input-faults given more fault other due also same (inr p) (inl q) = absurd (read.apart p.0 other also p.1 q)
  input-faults given more fault other due also same (inr p) (inr q) =
      (one q.0).faults given more fault other (seen fault due) (seen other also) same (subst (λ (text : List ℕ). IsFault given text fault) (read.texts p.0 q.0 p.1 q.1) p.2) q.2

  pub input-alike : AreAlike Due matter shown (input_step file source Stands IsFault) (input_step file again Stands IsFault)
  input-alike = record {
    values = λ given more value other same p q.
        (one q.0).values given more value other same (subst (λ (text : List ℕ). Stands given text value) (read.texts p.0 q.0 p.1 q.1) p.2) q.2;
    apart = input-apart;
    parted = input-parted;
    faults = input-faults;
  }
