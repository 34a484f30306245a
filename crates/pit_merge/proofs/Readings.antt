-- What two readings of the same bytes have in common; they may be one.
use Rattle.std.proofs.Common.{◌≡◌, ℕ, ◌<◌, ◌≤◌, List, [], ◌++◌, length, length-append, append-nil, Option, Some, None, IsSome, inl, refl, sym, ap, subst, ◌∙◌, arith}
use Rattle.std.proofs.lemmas.Bool.{false≢true}
use Rattle.std.specs.Io.KnownBytes.{Consumes, IsAtEnd}
use Rattle.pit_step.specs.declared.read.TheConstants.{INPUT_BYTES_MAX}
use Rattle.pit_step.specs.declared.input.Input.{Input}
use Rattle.pit_step.specs.declared.fault.CliFault.{CliFault}
use Rattle.pit_step.specs.declared.fault.CliFault.TheVariants.{CannotRead, TooLong, NoMemory}
use Rattle.pit_step.specs.Devices.{Reading, IsWhole, IsTooLong, IsInputFault, input_step}
use Rattle.pit_step.proofs.CallerLemmas.{IsDetermined, IsSeen, IsOfInputs, never_two, input-determined}

-- each that is read whole has the same text, and one has no fault that is due where the other is read whole, or both have the same
pub record AreReadAlike (Due : CliFault → Type 0) (file : Input) (source again : Reading) : Type 0 where
  pub texts : (text more : List ℕ) → IsWhole source text → IsWhole again more → text ≡ more
  pub apart : (text : List ℕ) (fault : CliFault) → Due fault → IsWhole source text → IsInputFault again file fault → ⊥
  pub parted : (text : List ℕ) (fault : CliFault) → Due fault → IsWhole again text → IsInputFault source file fault → ⊥
  pub faults : (fault other : CliFault) → Due fault → Due other → IsInputFault source file fault → IsInputFault again file other → fault ≡ other

-- it tells its bytes at first
abbrev pub IsTold : Reading → Type 0
IsTold source = IsSome source.before

-- ---- one reading

module _ (file : Input) (source : Reading) (told : IsTold source) where
  read : IsDetermined IsSeen (input_step {A = Unit {0}} {B = List ℕ} file source (λ given text value. value ≡ text) (λ given text fault. ⊥)) tt
  read =
      input-determined file source (λ (given : Unit {0}) (text value : List ℕ). value ≡ text) (λ (given : Unit {0}) (text : List ℕ) (fault : CliFault). ⊥) tt told
      (λ text. record { values = λ value other p q. p ∙ sym q; apart = λ value fault some p q. q; faults = λ fault other some also p q. absurd p })

  pub read-itself : AreReadAlike IsSeen file source source
  read-itself = record {
    texts = λ text more p q. read.values text more (text, p, refl) (more, q, refl);
    apart = λ text fault some p q. read.apart text fault some (text, p, refl) (inl q);
    parted = λ text fault some p q. read.apart text fault some (text, p, refl) (inl q);
    faults = λ fault other some also p q. read.faults fault other some also (inl p) (inl q);
  }

-- ---- two readings

abbrev pub bytes_of : Reading → Option (List ℕ)
bytes_of source = source.before

abbrev told_text : Option (List ℕ) → List ℕ
told_text None = []
told_text (Some xs) = xs

all-told : (before after : Option (List ℕ)) (text : List ℕ) → IsSome before → Consumes before after text → IsAtEnd after → text ≡ told_text before
all-told None after text told taken end = absurd (false≢true told)
all-told (Some xs) None text told taken end = absurd taken
all-told (Some xs) (Some ys) text told taken end = sym (append-nil text) ∙ (ap (λ (zs : List ℕ). text ++ zs) (sym end) ∙ sym taken)

no-more-told : (before after : Option (List ℕ)) (text : List ℕ) → IsSome before → Consumes before after text → length text ≤ length (told_text before)
no-more-told None after text told taken = absurd (false≢true told)
no-more-told (Some xs) None text told taken = absurd taken
no-more-told (Some xs) (Some ys) text told taken = let long = ap length taken in omega (arith, long, length-append text ys)

whole-text : (source : Reading) (text : List ℕ) → IsTold source → IsWhole source text → text ≡ told_text (bytes_of source)
whole-text source text told is = all-told source.before source.after text told is.taken is.end

long-text : (source : Reading) → IsTold source → IsTooLong source → INPUT_BYTES_MAX < length (told_text (bytes_of source))
long-text source told is = omega (arith, is.long, no-more-told source.before source.after is.bytes told is.taken)

never-long : (source again : Reading) (text : List ℕ) → IsTold source → IsTold again → bytes_of again ≡ bytes_of source → IsWhole source text → IsTooLong again → ⊥
never-long source again text told also same whole long =
    let one : length text ≡ length (told_text (bytes_of source)) = ap length (whole-text source text told whole) in
    let both : length (told_text (bytes_of again)) ≡ length (told_text (bytes_of source)) = ap (λ (bytes : Option (List ℕ)). length (told_text bytes)) same in
    omega (arith, whole.short, one, both, long-text again also long)

-- of the faults of reading one is of the input
of-length : (source : Reading) (file : Input) (fault : CliFault) → IsOfInputs fault → IsInputFault source file fault → (fault ≡ TooLong file) × IsTooLong source
of-length source file (CannotRead f) due p = absurd (never_two due)
of-length source file (TooLong f) due p = (ap (λ (i : Input). TooLong i) p.0, p.1)
of-length source file NoMemory due p = absurd (never_two due)
of-length source file other due p = absurd p

module _ (file : Input) (source again : Reading) (told : IsTold source) (same : bytes_of again ≡ bytes_of source) where
  also : IsTold again
  also = subst (λ (bytes : Option (List ℕ)). IsSome bytes) (sym same) told

  pub read-again : AreReadAlike IsOfInputs file source again
  read-again = record {
    texts = λ text more p q.
        whole-text source text told p ∙ (ap (λ (bytes : Option (List ℕ)). told_text bytes) (sym same) ∙ sym (whole-text again more also q));
    apart = λ text fault due p q. never-long source again text told also same p (of-length again file fault due q).1;
    parted = λ text fault due p q. never-long again source text also told (sym same) p (of-length source file fault due q).1;
    faults = λ fault other due too p q. (of-length source file fault due p).0 ∙ sym (of-length again file other too q).0;
  }
