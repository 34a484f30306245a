-- What devices that tell their bytes determine of a step that reads or writes.
use Rattle.std.proofs.Common.{◌≡◌, ◌≢◌, ℕ, ◌+◌, ◌<◌, List, ◌++◌, length, length-append, Option, Some, None, IsSome, true, ◌⊎◌, inl, inr, refl, sym, ap, subst, ◌∙◌, true≢false, arith}
use Rattle.std.proofs.lemmas.Bool.{false≢true}
use Rattle.std.proofs.lemmas.List.{append-nil}
use Rattle.std.specs.Io.KnownBytes.{Appends, Consumes, IsAtEnd, Keeps}
use Rattle.pit_text.specs.declared.error.TextError.{TextError}
use Rattle.pit_text.specs.declared.error.Cause.{Cause}
use Rattle.pit_text.specs.Stands.{HasOneResult}
use Rattle.pit_step.specs.declared.input.Input.{Input}
use Rattle.pit_step.specs.declared.fault.CliFault.{CliFault}
use Rattle.pit_step.specs.declared.fault.CliFault.TheVariants.{Text, TooLong, CannotRead, NoMemory}
use Rattle.pit_step.specs.Devices.{Reading, Writing, IsWhole, IsTooLong, IsInputFault, IsTextFault, input_step, write_step}
use Rattle.pit_step.specs.Steps.{judge_step}
use Rattle.pit_step.specs.Inputs.{StandsAs}
use Rattle.pit_step.specs.Statuses.{fault_status}
use Rattle.pit_step.proofs.Determined.{IsDetermined, IsDecided, IsShown, IsNeverBoth}

-- ---- faults

-- it isn't out of memory, which no device shows
abbrev pub IsSeen : CliFault → Type 0
IsSeen fault = fault ≢ NoMemory

-- it is of the inputs
abbrev pub IsOfInputs : CliFault → Type 0
IsOfInputs fault = fault_status fault ≡ 2

pub never_two : ◌≡◌ {A = ℕ} 3 2 → ⊥
never_two is = omega (arith, is)

pub inputs-seen : (fault : CliFault) → IsOfInputs fault → IsSeen fault
inputs-seen fault due is = never_two (sym (ap fault_status is) ∙ due)

-- ---- the text of an input

-- it stands for one value or has one fault, out of memory aside
pub record IsOneText {B : Type 0} (Stands : B → Type 0) (IsFault : CliFault → Type 0) : Type 0 where
  pub values : (value other : B) → Stands value → Stands other → value ≡ other
  pub apart : (value : B) (fault : CliFault) → fault ≢ NoMemory → Stands value → IsFault fault → ⊥
  pub faults : (fault other : CliFault) → fault ≢ NoMemory → other ≢ NoMemory → IsFault fault → IsFault other → fault ≡ other

same_error : (error other : TextError) → error.line ≡ other.line → error.cause ≡ other.cause → error ≡ other
same_error error other line cause =
    ap (λ (n : ℕ). record error { line = n }) line ∙ ap (λ (c : Cause). record other { cause = c }) cause

text_fault : (file : Input) (IsBad : TextError → Type 0) (IsStop : Type 0) (fault : CliFault) → fault ≢ NoMemory → IsTextFault file IsBad IsStop fault
    → (error : TextError) × (fault ≡ Text file error) × IsBad error
text_fault file IsBad IsStop (Text f error) some p = (error, ap (λ (i : Input). Text i error) p.0, p.1)
text_fault file IsBad IsStop NoMemory some p = absurd (some refl)
text_fault file IsBad IsStop other some p = absurd p

one_fault : {F : Type 0} (file : Input) (Stands : List F → Type 0) (Fails : ℕ → Cause → Type 0) (IsStop : Type 0) → HasOneResult Stands Fails
    → (fault other : CliFault) → fault ≢ NoMemory → other ≢ NoMemory
    → IsTextFault file (λ (error : TextError). Fails error.line error.cause) IsStop fault → IsTextFault file (λ (error : TextError). Fails error.line error.cause) IsStop other → fault ≡ other
one_fault {F} file Stands Fails IsStop one fault other some also p q =
    let bad = text_fault file (λ (error : TextError). Fails error.line error.cause) IsStop fault some p in
    let more = text_fault file (λ (error : TextError). Fails error.line error.cause) IsStop other also q in
    bad.1
    ∙ ap (λ (error : TextError). Text file error)
    (same_error bad.0 more.0 (one.places bad.0.line more.0.line bad.0.cause more.0.cause bad.2 more.2) (one.causes bad.0.line more.0.line bad.0.cause more.0.cause bad.2 more.2))
    ∙ sym more.1

pub one_text : {F B : Type 0} (file : Input) (Stands : List F → Type 0) (Fails : ℕ → Cause → Type 0) (IsStop : Type 0) (value_of : List F → B) → HasOneResult Stands Fails
    → IsOneText (StandsAs Stands value_of) (IsTextFault file (λ (error : TextError). Fails error.line error.cause) IsStop)
one_text {F} {B} file Stands Fails IsStop value_of one = record {
  values = λ value other p q. p.says ∙ ap value_of (one.facts p.facts q.facts p.stands q.stands) ∙ sym q.says;
  apart = λ value fault some p q.
      let bad = text_fault file (λ (error : TextError). Fails error.line error.cause) IsStop fault some q in one.apart p.facts bad.0.line bad.0.cause p.stands bad.2;
  faults = one_fault file Stands Fails IsStop one;
}

-- it stands for a value or has a fault of the inputs, and only one
pub record IsDecidedText {B : Type 0} (Stands : B → Type 0) (IsFault : CliFault → Type 0) : Type 0 where
  pub some : ((value : B) × Stands value) ⊎ ((fault : CliFault) × IsOfInputs fault × IsFault fault)
  pub once : IsOneText Stands IsFault

module _ {F B : Type 0} (file : Input) (Stands : List F → Type 0) (Fails : ℕ → Cause → Type 0) (IsStop : Type 0) (value_of : List F → B) (one : HasOneResult Stands Fails) where
  abbrev TextFault : CliFault → Type 0
  TextFault = IsTextFault file (λ (error : TextError). Fails error.line error.cause) IsStop

  some_text : ((facts : List F) × Stands facts) ⊎ ((place : ℕ) × (cause : Cause) × Fails place cause)
      → ((value : B) × StandsAs Stands value_of value) ⊎ ((fault : CliFault) × IsOfInputs fault × TextFault fault)
  some_text (inl found) = inl (value_of found.0, record { facts = found.0; stands = found.1; says = refl })
  some_text (inr bad) = inr (Text file (record { line = bad.0; cause = bad.1 }), refl, (refl, bad.2))

  pub text-decided : IsDecidedText (StandsAs Stands value_of) TextFault
  text-decided = record { some = some_text one.some; once = one_text file Stands Fails IsStop value_of one }

pub judge-decided : {A B : Type 0} (Gives : A → B → Type 0) (Fails : A → CliFault → Type 0) (given : A) → IsDecidedText (Gives given) (Fails given)
    → IsDecided IsOfInputs (judge_step Gives Fails) given
judge-decided Gives Fails given text = record {
  some = text.some;
  once = record {
    values = text.once.values;
    apart = λ value fault due p q. text.once.apart value fault (inputs-seen fault due) p q;
    faults = λ fault other due also p q. text.once.faults fault other (inputs-seen fault due) (inputs-seen other also) p q;
  };
}

-- ---- the bytes of an input

same_bytes : (before after : Option (List ℕ)) (bytes other : List ℕ) → IsSome before → IsAtEnd after → Consumes before after bytes → Consumes before after other → bytes ≡ other
same_bytes None after bytes other told end p q = absurd (false≢true told)
same_bytes (Some xs) None bytes other told end p q = absurd p
same_bytes (Some xs) (Some ys) bytes other told end p q =
    sym (append-nil bytes) ∙ ap (λ (zs : List ℕ). bytes ++ zs) (sym end) ∙ sym p ∙ q ∙ ap (λ (zs : List ℕ). other ++ zs) end ∙ append-nil other

pub whole_once : (source : Reading) (bytes other : List ℕ) → IsSome source.before → IsWhole source bytes → IsWhole source other → bytes ≡ other
whole_once source bytes other told p q = same_bytes source.before source.after bytes other told p.end p.taken q.taken

not_too_long : (source : Reading) (bytes : List ℕ) → IsSome source.before → IsWhole source bytes → IsTooLong source → ⊥
not_too_long source bytes told whole long =
    let same : length bytes ≡ length long.bytes = ap length (same_bytes source.before source.after bytes long.bytes told whole.end whole.taken long.taken) in
    omega (arith, whole.short, long.long)

-- ---- the faults of an input, out of memory aside

reading_fault : (source : Reading) (file : Input) (fault : CliFault) → fault ≢ NoMemory → IsInputFault source file fault
    → ((fault ≡ CannotRead file) × (source.failed ≡ true)) ⊎ ((fault ≡ TooLong file) × IsTooLong source)
reading_fault source file (CannotRead f) some p = inl (ap (λ (i : Input). CannotRead i) p.0, p.1)
reading_fault source file (TooLong f) some p = inr (ap (λ (i : Input). TooLong i) p.0, p.1)
reading_fault source file NoMemory some p = absurd (some refl)
reading_fault source file other some p = absurd p

-- what was read whole has no fault of reading
pub unread : (source : Reading) (file : Input) (bytes : List ℕ) (fault : CliFault) → IsSome source.before → fault ≢ NoMemory → IsWhole source bytes → IsInputFault source file fault → ⊥
unread source file bytes fault told some whole p =
    elim (reading_fault source file fault some p) [
      | inl failed ↦ true≢false (sym failed.1 ∙ whole.sound)
      | inr long ↦ not_too_long source bytes told whole long.1
    ]

pub one_reading_fault : (source : Reading) (file : Input) (fault other : CliFault) → fault ≢ NoMemory → other ≢ NoMemory → IsInputFault source file fault → IsInputFault source file other → fault ≡ other
one_reading_fault source file fault other some also p q =
    elim (reading_fault source file fault some p) [
      | inl failed ↦
          elim (reading_fault source file other also q) [
            | inl too ↦ failed.0 ∙ sym too.0
            | inr long ↦ absurd (true≢false (sym failed.1 ∙ long.1.sound))
          ]
      | inr long ↦
          elim (reading_fault source file other also q) [
            | inl failed ↦ absurd (true≢false (sym failed.1 ∙ long.1.sound))
            | inr too ↦ long.0 ∙ sym too.0
          ]
    ]

module _ {A B : Type 0} (file : Input) (source : Reading) (Stands : A → List ℕ → B → Type 0) (IsFault : A → List ℕ → CliFault → Type 0) (given : A) where
  input_apart : IsSome source.before → ((bytes : List ℕ) → IsOneText (Stands given bytes) (IsFault given bytes))
      → (value : B) (fault : CliFault) → fault ≢ NoMemory → (input_step file source Stands IsFault).Gives given value → (input_step file source Stands IsFault).Fails given fault → ⊥
  input_apart told one value fault some p (inl q) = unread source file p.0 fault told some p.1 q
  input_apart told one value fault some p (inr q) =
      (one q.0).apart value fault some (subst (λ (bytes : List ℕ). Stands given bytes value) (whole_once source p.0 q.0 told p.1 q.1) p.2) q.2

  input_faults : IsSome source.before → ((bytes : List ℕ) → IsOneText (Stands given bytes) (IsFault given bytes))
      → (fault other : CliFault) → fault ≢ NoMemory → other ≢ NoMemory
      → (input_step file source Stands IsFault).Fails given fault → (input_step file source Stands IsFault).Fails given other → fault ≡ other
  input_faults told one fault other some also (inl p) (inl q) = one_reading_fault source file fault other some also p q
  input_faults told one fault other some also (inl p) (inr q) = absurd (unread source file q.0 fault told some q.1 p)
  input_faults told one fault other some also (inr p) (inl q) = absurd (unread source file p.0 other told also p.1 q)
  input_faults told one fault other some also (inr p) (inr q) =
      (one q.0).faults fault other some also (subst (λ (bytes : List ℕ). IsFault given bytes fault) (whole_once source p.0 q.0 told p.1 q.1) p.2) q.2

  pub input-determined : IsSome source.before → ((bytes : List ℕ) → IsOneText (Stands given bytes) (IsFault given bytes)) → IsDetermined IsSeen (input_step file source Stands IsFault) given
  input-determined told one = record {
    values = λ value other p q.
        (one q.0).values value other (subst (λ (bytes : List ℕ). Stands given bytes value) (whole_once source p.0 q.0 told p.1 q.1) p.2) q.2;
    apart = input_apart told one;
    faults = input_faults told one;
  }

-- ---- an output

grown : (before after : Option (List ℕ)) (text : List ℕ) → IsSome before → 0 < length text → Appends before after text → Keeps before after → ⊥
grown None after text told some p q = false≢true told
grown (Some xs) None text told some p q = p
grown (Some xs) (Some ys) text told some p q =
    let longer : length ys ≡ length xs + length text = ap length p ∙ length-append xs text in
    let same : length ys ≡ length xs = ap length q in
    omega arith

module _ {A B : Type 0} (out : Writing) (text_of : A → List ℕ) (value_of : A → B) (given : A) where
  pub write-determined : IsDetermined IsSeen (write_step out text_of value_of) given
  write-determined = record {
    values = λ value other p q. p.0 ∙ sym q.0;
    apart = λ value fault some p q. true≢false (sym q.2 ∙ p.2 q.3);
    faults = λ fault other some also p q. p.0 ∙ sym q.0;
  }

  pub write-shown : IsSome out.before → 0 < length (text_of given) → IsShown (write_step out text_of value_of) given
  write-shown told some = λ value p untouched. grown out.before out.after (text_of given) told some p.1 untouched

  pub write-never_both : IsNeverBoth (write_step out text_of value_of) given
  write-never_both = λ value fault p q. true≢false (sym q.2 ∙ p.2 q.3)
