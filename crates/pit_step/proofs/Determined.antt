-- Steps that give one value or have one fault, one behind the other.
use Rattle.std.proofs.Common.{◌≡◌, ◌≢◌, ◌⊎◌, inl, inr, ℕ, ◌+◌, List, [], ◌∷◌, refl, sym, ap, subst, ◌∙◌}
use Rattle.std.specs.Prelude.{⊤}
use Rattle.pit_step.specs.Steps.{Step, in_turn, beside, carrying, pass_step, may_step, run_step, each, want_aside, HasOneOutcome}

-- it gives one value or has one fault that is due; faults of another kind are left aside
pub record IsDetermined {F A B : Type 0} (Due : F → Type 0) (step : Step F A B) (given : A) : Type 0 where
  pub values : (value other : B) → step.Gives given value → step.Gives given other → value ≡ other
  pub apart : (value : B) (fault : F) → Due fault → step.Gives given value → step.Fails given fault → ⊥
  pub faults : (fault other : F) → Due fault → Due other → step.Fails given fault → step.Fails given other → fault ≡ other

-- it gives a value, or has a fault that is due
abbrev pub HasSome : {F A B : Type 0} → (F → Type 0) → Step F A B → A → Type 0
HasSome {F} {A} {B} Due step given = ((value : B) × step.Gives given value) ⊎ ((fault : F) × Due fault × step.Fails given fault)

-- both
pub record IsDecided {F A B : Type 0} (Due : F → Type 0) (step : Step F A B) (given : A) : Type 0 where
  pub some : HasSome Due step given
  pub once : IsDetermined Due step given

-- each of its faults is of this kind
abbrev pub FailsOnly : {F A B : Type 0} → (F → Type 0) → Step F A B → A → Type 0
FailsOnly {F} {A} {B} Kind step given = (fault : F) → step.Fails given fault → Kind fault

-- it gives no value where it left its devices alone
abbrev pub IsShown : {F A B : Type 0} → Step F A B → A → Type 0
IsShown {F} {A} {B} step given = (value : B) → step.Gives given value → step.IsUntouched → ⊥

-- it never gives a value and has a fault, whichever that is
abbrev pub IsNeverBoth : {F A B : Type 0} → Step F A B → A → Type 0
IsNeverBoth {F} {A} {B} step given = (value : B) (fault : F) → step.Gives given value → step.Fails given fault → ⊥

-- where fewer faults are due
pub fewer-determined : {F A B : Type 0} (Due Fewer : F → Type 0) (step : Step F A B) (given : A) → ((fault : F) → Fewer fault → Due fault) → IsDetermined Due step given → IsDetermined Fewer step given
fewer-determined Due Fewer step given due one = record {
  values = one.values;
  apart = λ value fault is p q. one.apart value fault (due fault is) p q;
  faults = λ fault other is also p q. one.faults fault other (due fault is) (due other also) p q;
}

-- ---- one step and then another

module _ {F A B C : Type 0} (Due : F → Type 0) (first : Step F A B) (next : Step F B C) (given : A) where
  next_gives : (between other : B) (value : C) → between ≡ other → next.Gives between value → next.Gives other value
  next_gives between other value same gives = subst (λ (b : B). next.Gives b value) same gives

  next_fails : (between other : B) (fault : F) → between ≡ other → next.Fails between fault → next.Fails other fault
  next_fails between other fault same fails = subst (λ (b : B). next.Fails b fault) same fails

  turn_apart : IsDetermined Due first given → ((between : B) → IsDetermined Due next between)
      → (value : C) (fault : F) → Due fault → (in_turn first next).Gives given value → (in_turn first next).Fails given fault → ⊥
  turn_apart one then value fault due p (inl q) = one.apart p.0 fault due p.1 q.0
  turn_apart one then value fault due p (inr q) =
      (then q.0).apart value fault due (next_gives p.0 q.0 value (one.values p.0 q.0 p.1 q.1) p.2) q.2

  turn_faults : IsDetermined Due first given → ((between : B) → IsDetermined Due next between)
      → (fault other : F) → Due fault → Due other → (in_turn first next).Fails given fault → (in_turn first next).Fails given other → fault ≡ other
  turn_faults one then fault other due also (inl p) (inl q) = one.faults fault other due also p.0 q.0
  turn_faults one then fault other due also (inl p) (inr q) = absurd (one.apart q.0 fault due q.1 p.0)
  turn_faults one then fault other due also (inr p) (inl q) = absurd (one.apart p.0 other also p.1 q.0)
  turn_faults one then fault other due also (inr p) (inr q) =
      (then q.0).faults fault other due also (next_fails p.0 q.0 fault (one.values p.0 q.0 p.1 q.1) p.2) q.2

  pub in_turn-determined : IsDetermined Due first given → ((between : B) → IsDetermined Due next between) → IsDetermined Due (in_turn first next) given
  in_turn-determined one then = record {
    values = λ value other p q. (then q.0).values value other (next_gives p.0 q.0 value (one.values p.0 q.0 p.1 q.1) p.2) q.2;
    apart = turn_apart one then;
    faults = turn_faults one then;
  }

  then_some : (between : B) → first.Gives given between → HasSome Due next between → HasSome Due (in_turn first next) given
  then_some between gives (inl found) = inl (found.0, (between, gives, found.1))
  then_some between gives (inr bad) = inr (bad.0, bad.1, inr (between, gives, bad.2))

  turn_some : next.IsUntouched → HasSome Due first given → ((between : B) → HasSome Due next between) → HasSome Due (in_turn first next) given
  turn_some untouched (inl found) then = then_some found.0 found.1 (then found.0)
  turn_some untouched (inr bad) then = inr (bad.0, bad.1, inl (bad.2, untouched))

  pub in_turn-decided : next.IsUntouched → IsDecided Due first given → ((between : B) → IsDecided Due next between) → IsDecided Due (in_turn first next) given
  in_turn-decided untouched one then = record {
    some = turn_some untouched one.some (λ (between : B). (then between).some);
    once = in_turn-determined one.once (λ (between : B). (then between).once);
  }

  pub in_turn-shown : ((between : B) → first.Gives given between → IsShown next between) → IsShown (in_turn first next) given
  in_turn-shown shown = λ value p untouched. shown p.0 p.1 value p.2 untouched.1

  pub in_turn-never_both : IsDetermined Due first given → ((between : B) → first.Gives given between → IsShown next between)
      → ((between : B) → first.Gives given between → IsNeverBoth next between)
      → (value : C) (fault : F) → (in_turn first next).Gives given value → (in_turn first next).Fails given fault → ⊥
  in_turn-never_both one shown never value fault p (inl q) = shown p.0 p.1 value p.2 q.1
  in_turn-never_both one shown never value fault p (inr q) =
      never q.0 q.1 value fault (next_gives p.0 q.0 value (one.values p.0 q.0 p.1 q.1) p.2) q.2

pub in_turn-only : {F A B C : Type 0} (Kind : F → Type 0) (first : Step F A B) (next : Step F B C) (given : A) → FailsOnly Kind first given → ((between : B) → FailsOnly Kind next between)
    → FailsOnly Kind (in_turn first next) given
in_turn-only Kind first next given one then fault (inl p) = one fault p.0
in_turn-only Kind first next given one then fault (inr p) = then p.0 fault p.2

-- ---- beside what was given, and with what is carried along

pub beside-determined : {F A B : Type 0} (Due : F → Type 0) (step : Step F A B) (given : A) → IsDetermined Due step given → IsDetermined Due (beside step) given
beside-determined {F} {A} {B} Due step given one = record {
  values = λ value other p q.
      ap (λ (a : A). (a, value.1)) (p.0 ∙ sym q.0) ∙ ap (λ (b : B). (other.0, b)) (one.values value.1 other.1 p.1 q.1);
  apart = λ value fault due p q. one.apart value.1 fault due p.1 q;
  faults = one.faults;
}

pub beside-decided : {F A B : Type 0} (Due : F → Type 0) (step : Step F A B) (given : A) → IsDecided Due step given → IsDecided Due (beside step) given
beside-decided {F} {A} {B} Due step given one = record { some = some one.some; once = beside-determined Due step given one.once }
  where
    some : HasSome Due step given → HasSome Due (beside step) given
    some (inl found) = inl ((given, found.0), (refl, found.1))
    some (inr bad) = inr bad

pub carrying-determined : {F A B C : Type 0} (Due : F → Type 0) (step : Step F A B) (given : A × C) → IsDetermined Due step given.0 → IsDetermined Due (carrying {C = C} step) given
carrying-determined {F} {A} {B} {C} Due step given one = record {
  values = λ value other p q.
      ap (λ (b : B). (b, value.1)) (one.values value.0 other.0 p.0 q.0) ∙ ap (λ (c : C). (other.0, c)) (p.1 ∙ sym q.1);
  apart = λ value fault due p q. one.apart value.0 fault due p.0 q;
  faults = one.faults;
}

-- ---- what is given, where it passes

module _ {F A : Type 0} (Due : F → Type 0) (Passes : A → Type 0) (Fails : A → F → Type 0) (given : A) where
  pass_some : Passes given ⊎ ((fault : F) × Due fault × Fails given fault) → HasSome Due (pass_step Passes Fails) given
  pass_some (inl passes) = inl (given, (refl, passes))
  pass_some (inr bad) = inr bad

  pub pass-decided : Passes given ⊎ ((fault : F) × Due fault × Fails given fault) → ((fault : F) → Due fault → Passes given → Fails given fault → ⊥)
      → ((fault other : F) → Due fault → Due other → Fails given fault → Fails given other → fault ≡ other) → IsDecided Due (pass_step Passes Fails) given
  pass-decided some apart faults = record {
    some = pass_some some;
    once = record {
      values = λ value other p q. p.0 ∙ sym q.0;
      apart = λ value fault due p q. apart fault due p.1 q;
      faults = faults;
    };
  }

pub may-decided : {F A : Type 0} (Due : F → Type 0) (fault : F) (given : A) → (Due fault → ⊥) → IsDecided Due (may_step fault) given
may-decided {F} {A} Due fault given never =
    pass-decided Due (λ (a : A). ⊤) (λ (a : A) (other : F). other ≡ fault) given (inl tt) (λ other due p q. never (subst Due q due)) (λ other more due also p q. p ∙ sym q)

-- ---- what is given decides which run it is

pub run-decided : {F A B : Type 0} (Due : F → Type 0) (run : A → Step F (Unit {0}) B) (IsUntouched : Type 0) (given : A) → IsDecided Due (run given) tt → IsDecided Due (run_step run IsUntouched) given
run-decided Due run IsUntouched given one = record {
  some = one.some;
  once = record { values = one.once.values; apart = one.once.apart; faults = one.once.faults };
}

-- ---- each of a list

module _ {F A B : Type 0} (Due : F → Type 0) (step : ℕ → A → Step F (Unit {0}) B) (left : (number : ℕ) (item : A) → (step number item).IsUntouched) where
  pub each-untouched : (number : ℕ) (items : List A) → (each step number items).IsUntouched
  each-untouched number [] = tt
  each-untouched number (item ∷ items) = (left number item, each-untouched (number + 1) items)

  module _ (number : ℕ) (item : A) (items : List A) (one : IsDecided Due (step number item) tt) (more : IsDecided Due (each step (number + 1) items) tt) where
    each_values : (values others : List B) → (each step number (item ∷ items)).Gives tt values → (each step number (item ∷ items)).Gives tt others → values ≡ others
    each_values [] others p q = absurd p
    each_values (v ∷ values) [] p q = absurd q
    each_values (v ∷ values) (w ∷ others) p q =
        ap (λ (b : B). b ∷ values) (one.once.values v w p.0 q.0) ∙ ap (λ (bs : List B). w ∷ bs) (more.once.values values others p.1 q.1)

    each_apart : (values : List B) (fault : F) → Due fault → (each step number (item ∷ items)).Gives tt values → (each step number (item ∷ items)).Fails tt fault → ⊥
    each_apart [] fault due p q = p
    each_apart (v ∷ values) fault due p (inl q) = one.once.apart v fault due p.0 q.0
    each_apart (v ∷ values) fault due p (inr q) = more.once.apart values fault due p.1 q.2

    each_faults : (fault other : F) → Due fault → Due other → (each step number (item ∷ items)).Fails tt fault → (each step number (item ∷ items)).Fails tt other → fault ≡ other
    each_faults fault other due also (inl p) (inl q) = one.once.faults fault other due also p.0 q.0
    each_faults fault other due also (inl p) (inr q) = absurd (one.once.apart q.0 fault due q.1 p.0)
    each_faults fault other due also (inr p) (inl q) = absurd (one.once.apart p.0 other also p.1 q.0)
    each_faults fault other due also (inr p) (inr q) = more.once.faults fault other due also p.2 q.2

    each_more : (value : B) → (step number item).Gives tt value → HasSome Due (each step (number + 1) items) tt → HasSome Due (each step number (item ∷ items)) tt
    each_more value gives (inl found) = inl (value ∷ found.0, (gives, found.1))
    each_more value gives (inr bad) = inr (bad.0, bad.1, inr (value, gives, bad.2))

    each_some : HasSome Due (step number item) tt → HasSome Due (each step number (item ∷ items)) tt
    each_some (inl found) = each_more found.0 found.1 more.some
    each_some (inr bad) = inr (bad.0, bad.1, inl (bad.2, each-untouched (number + 1) items))

  pub each-decided : ((number : ℕ) (item : A) → IsDecided Due (step number item) tt) → (number : ℕ) (items : List A) → IsDecided Due (each step number items) tt
  each-decided decides number [] = record {
    some = inl ([], refl);
    once = record { values = λ value other p q. p ∙ sym q; apart = λ value fault due p q. q; faults = λ fault other due also p q. absurd p };
  }
  each-decided decides number (item ∷ items) =
      let one = decides number item in
      let more = each-decided decides (number + 1) items in
      record {
        some = each_some number item items one more one.some;
        once = record {
          values = each_values number item items one more;
          apart = each_apart number item items one more;
          faults = each_faults number item items one more;
        };
      }

pub each-only : {F A B : Type 0} (Kind : F → Type 0) (step : ℕ → A → Step F (Unit {0}) B) → ((number : ℕ) (item : A) → FailsOnly Kind (step number item) tt) → (number : ℕ) (items : List A)
    → FailsOnly Kind (each step number items) tt
each-only Kind step only number [] fault p = absurd p
each-only Kind step only number (item ∷ items) fault (inl p) = only number item fault p.0
each-only Kind step only number (item ∷ items) fault (inr p) = each-only Kind step only (number + 1) items fault p.2

-- ---- a run

-- out of memory aside
pub seen_run : {F B : Type 0} (no_memory : F) (run : Step F (Unit {0}) B) → IsDetermined (λ fault. fault ≢ no_memory) run tt → HasOneOutcome no_memory (want_aside no_memory run)
seen_run no_memory run one = record {
  values = one.values;
  apart = λ value fault p q. one.apart value fault q.0 p q.1;
  faults = λ fault other some also p q. one.faults fault other some also p.1 q.1;
}

-- a run whose last step shows at its devices that it gave a value
pub shown_run : {F A B C : Type 0} (no_memory : F) (first : Step F (Unit {0}) A) (next : Step F A B) (last : Step F B C) → IsDetermined (λ fault. fault ≢ no_memory) first tt
    → ((a : A) → IsDetermined (λ fault. fault ≢ no_memory) next a) → ((b : B) → IsDetermined (λ fault. fault ≢ no_memory) last b)
    → ((a : A) (b : B) → next.Gives a b → IsShown last b) → ((b : B) → IsNeverBoth last b) → HasOneOutcome no_memory (in_turn first (in_turn next last))
shown_run {F} {A} {B} {C} no_memory first next last one_first one_next one_last shown never =
    let one : IsDetermined (λ (fault : F). fault ≢ no_memory) (in_turn first (in_turn next last)) tt =
    in_turn-determined (λ (fault : F). fault ≢ no_memory) first (in_turn next last) tt one_first
    (λ (a : A). in_turn-determined (λ (fault : F). fault ≢ no_memory) next last a (one_next a) one_last) in
    record {
      values = one.values;
      apart = in_turn-never_both (λ (fault : F). fault ≢ no_memory) first (in_turn next last) tt one_first
          (λ (a : A) given. in_turn-shown (λ (fault : F). fault ≢ no_memory) next last a (shown a))
          (λ (a : A) given. in_turn-never_both (λ (fault : F). fault ≢ no_memory) next last a (one_next a) (shown a) (λ (b : B) between. never b));
      faults = one.faults;
    }
