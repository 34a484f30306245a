-- To be out of memory is no fault, and no refusal that is due.
use Rattle.std.proofs.Common.{◌≡◌, ◌≢◌, ℕ, ◌==◌, nat_le, Bool, true, false, cond, is_some, slice_index_or, List, Some, None, ◌⊎◌, inl, inr, sym, ◌∙◌}
use Rattle.std.specs.List.{list_any}
use Rattle.pit_model.specs.Pit.{Pit, coefs_of}
use Rattle.pit_model.specs.Refusals.{preds_refusal, place_refusal, is_empty_interval}
use Rattle.pit_model.specs.declared.error.BuildError.{BuildError}
use Rattle.pit_model.specs.declared.error.BuildError.TheVariants.{BlockRange, ResourceRange, PeriodRange, Repeated, Interval, NoMemory}
use Rattle.pit_text.specs.declared.error.Cause.TheVariants.{NoMemory as WantsMemory}
use Rattle.pit_text.specs.declared.error.Fault.{Fault}
use Rattle.pit_text.specs.declared.error.Fault.TheVariants.{NotAscii, MissingHeader, BadHeader, NotCpit, Unsupported, SectionTwice, FieldCount, BadNumber, Build, CountWrong, PartBlock, BadKind}
use Rattle.pit_text.specs.declared.model.section_fact.SectionFact.{SectionFact}
use Rattle.pit_text.specs.declared.model.section_fact.SectionFact.TheVariants.{Profit, Coefficient, Limit}
use Rattle.pit_text.specs.Stands.{NamesFault}
use Rattle.pit_text.specs.Causes.{cause_of}
use Rattle.pit_text.specs.SectionFacts.{section_fact_refusal}

pub no_fault_wants : (fault : Fault) → cause_of fault ≢ WantsMemory
no_fault_wants NotAscii is = cc
no_fault_wants (MissingHeader key) is = cc
no_fault_wants (BadHeader key) is = cc
no_fault_wants NotCpit is = cc
no_fault_wants (Unsupported key) is = cc
no_fault_wants SectionTwice is = cc
no_fault_wants FieldCount is = cc
no_fault_wants (BadNumber error) is = cc
no_fault_wants (Build refusal) is = cc
no_fault_wants CountWrong is = cc
no_fault_wants PartBlock is = cc
no_fault_wants BadKind is = cc

-- an answer that is out of memory is so where the text stops
pub stop_alone : {C D : Type 0} {no_memory : C} {cause_of : D → C} {Stops : Type 0} {Fails : D → Type 0} {cause : C} → ((fault : D) → cause_of fault ≢ no_memory) → cause ≡ no_memory
    → ((cause ≡ no_memory) × Stops) ⊎ NamesFault cause_of Fails cause → Stops
stop_alone never is (inl stops) = stops.1
stop_alone never is (inr named) = absurd (never named.0 (sym named.1 ∙ is))

two_refusals : (a b : Bool) (d e : BuildError) → d ≢ NoMemory → e ≢ NoMemory → cond a (Some d) (cond b (Some e) None) ≢ Some NoMemory
two_refusals true b d e one other is = one cc
two_refusals false true d e one other is = other cc
two_refusals false false d e one other is = cc

three_refusals : (a b c : Bool) (d e f : BuildError) → d ≢ NoMemory → e ≢ NoMemory → f ≢ NoMemory → cond a (Some d) (cond b (Some e) (cond c (Some f) None)) ≢ Some NoMemory
three_refusals true b c d e f one other last is = one cc
three_refusals false b c d e f one other last is = two_refusals b c e f other last is

pub refused_preds : (pit : Pit) (b : ℕ) (listed : List ℕ) → preds_refusal pit b listed ≢ Some NoMemory
refused_preds pit b listed =
    three_refusals (nat_le pit.blocks b) (list_any (λ a. nat_le pit.blocks a) listed) (is_some (slice_index_or pit.preds b None)) BlockRange BlockRange Repeated (λ is. cc) (λ is. cc) (λ is. cc)

pub refused_place : (pit : Pit) (b : ℕ) → place_refusal pit b ≢ Some NoMemory
refused_place pit b = two_refusals (nat_le pit.blocks b) (is_some (slice_index_or pit.places b None)) BlockRange Repeated (λ is. cc) (λ is. cc)

pub refused_fact : (pit : Pit) (e : SectionFact) → section_fact_refusal pit e ≢ Some NoMemory
refused_fact pit (Profit b v) =
    two_refusals (nat_le pit.blocks b) (is_some (slice_index_or pit.profits b None)) BlockRange Repeated (λ is. cc) (λ is. cc)
refused_fact pit (Coefficient b r v) =
    three_refusals (nat_le pit.blocks b) (nat_le pit.resources r) (list_any (λ pair. pair.0 == r) (coefs_of pit b)) BlockRange ResourceRange Repeated (λ is. cc) (λ is. cc) (λ is. cc)
refused_fact pit (Limit r t lo hi) =
    three_refusals (nat_le pit.resources r) (nat_le pit.periods t) (is_empty_interval lo hi) ResourceRange PeriodRange Interval (λ is. cc) (λ is. cc) (λ is. cc)
