-- What a call that succeeded, and one that was refused, say of the refusal that is due.
use Rattle.std.proofs.Common.{◌≡◌, ◌≢◌, inl, inr, Option, Some, None, Result, Ok, Err, ap, sym, subst, refl, ◌∙◌}
use Rattle.pit_model.specs.declared.error.BuildError.{BuildError}
use Rattle.pit_model.specs.declared.error.BuildError.TheVariants.{NoMemory}
use Rattle.pit_num.specs.Refused.{IsRefusedBy}
use Rattle.pit_text.specs.declared.error.Cause.{Cause}
use Rattle.pit_text.specs.declared.error.Cause.TheVariants.{NoMemory as WantsMemory, Build as Refused}
use Rattle.pit_text.specs.declared.error.Fault.{Fault}
use Rattle.pit_text.specs.declared.error.Fault.TheVariants.{Build}
use Rattle.pit_text.specs.Stands.{◌>>=◌}
use Rattle.pit_text.specs.Causes.{cause_of, fact_unless}
use Rattle.pit_text.specs.Inside.Stands.{IsCauseOf}

pub due-ok : (o : Option BuildError) (r : Result (Unit {0}) BuildError) (x : Unit {0}) → r ≡ Ok x → IsRefusedBy NoMemory r o → o ≡ None
due-ok None r x is h = refl
due-ok (Some e) r x is h = cc

-- a line of which the pit is asked
pub line_stands : {F : Type 0} (r : Result F Fault) (fact : F) (pit given : F → Option BuildError) → r ≡ Ok fact → given fact ≡ pit fact → pit fact ≡ None
    → (r >>= (λ x. fact_unless (given x) x)) ≡ Ok fact
line_stands r fact pit given is same none = ap (λ q. q >>= (λ x. fact_unless (given x) x)) is ∙ ap (λ o. fact_unless o fact) (same ∙ none)

-- a line that is wrong by itself
pub line_bad : {F G : Type 0} (r : Result F Fault) (fault : Fault) (f : F → Result G Fault) → r ≡ Err fault → (r >>= f) ≡ Err fault
line_bad r fault f is = ap (λ q. q >>= f) is

-- what is answered where the pit refuses a fact, or has no memory for it
abbrev pub IsAnsweredOf : BuildError → Cause → Type 0
IsAnsweredOf e cause = (e ≡ NoMemory → cause ≡ WantsMemory) × (e ≢ NoMemory → cause ≡ Refused e)

due_cause : {F : Type 0} (o : Option BuildError) (r : Result (Unit {0}) BuildError) (e : BuildError) (cause : Cause) (fact : F) → r ≡ Err e → o ≢ Some NoMemory → IsRefusedBy NoMemory r o → IsAnsweredOf e cause
    → IsCauseOf WantsMemory cause_of (fact_unless o fact) cause
due_cause None (Ok x) e cause fact is own h answered = cc
due_cause None (Err d) e cause fact is own h answered = let same : e ≡ NoMemory = cc in inl (answered.0 same, refl)
due_cause (Some d) r e cause fact is own h answered = let same : d ≡ e = cc in inr (Build d, answered.1 (λ none. own (ap (λ (x : BuildError). Some x) (same ∙ none))) ∙ ap (λ (x : BuildError). Refused x) (sym same), refl)

pub line_due : {F G : Type 0} (r : Result F Fault) (fact : F) (refusal : F → Option BuildError) (made : F → G) (answer : Result (Unit {0}) BuildError) (e : BuildError) (cause : Cause) → r ≡ Ok fact
    → answer ≡ Err e → refusal fact ≢ Some NoMemory → IsRefusedBy NoMemory answer (refusal fact) → IsAnsweredOf e cause → IsCauseOf WantsMemory cause_of (r >>= (λ x. fact_unless (refusal x) (made x))) cause
line_due {F} {G} r fact refusal made answer e cause is refused own due answered =
    subst (λ (q : Result F Fault). IsCauseOf WantsMemory cause_of (q >>= (λ x. fact_unless (refusal x) (made x))) cause) (sym is) (due_cause (refusal fact) answer e cause (made fact) refused own due answered)
