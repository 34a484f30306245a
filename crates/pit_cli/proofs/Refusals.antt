-- Texts may be run, or are refused for one fault.
use Rattle.std.proofs.Common.{◌≡◌, ◌≢◌, ◌⊎◌, inl, inr, ℕ, length, refl, sym, ap, ◌∙◌, arith}
use Rattle.std.proofs.lemmas.Bool.Decides.{leb_tells}
use Rattle.pit_model.specs.Pit.{Pit}
use Rattle.pit_share.specs.Opening.{IsPlannerCount}
use Rattle.pit_share.specs.declared.new_session.TheConstants.{PLANNERS_MAX}
use Rattle.pit_step.specs.declared.fault.CliFault.{CliFault}
use Rattle.pit_step.specs.declared.fault.CliFault.TheVariants as cli
use Rattle.pit_step.specs.Statuses.{fault_status}
use Rattle.pit_step.specs.Steps.{in_turn}
use Rattle.pit_step.proofs.CallerLemmas.{IsOfInputs, IsDecided, in_turn-decided, pass-decided}
use Rattle.pit_cli.specs.Texts.{Texts, Setup, pit_in, opening_in, scripts_in, texts_judged}
use Rattle.pit_cli.specs.Planning.{desk_judged, count_judged, plan_judged}
use Rattle.pit_cli.specs.Outcomes.{MayRun, AreRefused}
use Rattle.pit_opening.specs.Beginnings.{Begun, IsOpeningOf, IsOpeningFault}
use Rattle.pit_opening.specs.Openings.{Opened, IsGoodOpening, IsDeskFault}
use Rattle.pit_opening.proofs.CallerLemmas.{IsEarly, refusal_early}
use Rattle.pit_cli.proofs.DecidedTexts.{IsOneBeginning, texts_decided, texts_early}

-- ---- laws of what a plan begins with

abbrev pub IsSomeOpening : Type 0
IsSomeOpening = (pit : Pit) (opening : Opened) → IsGoodOpening pit opening ⊎ ((fault : CliFault) × IsOfInputs fault × IsDeskFault pit opening fault)

abbrev pub IsOpeningApart : Type 0
IsOpeningApart = (pit : Pit) (opening : Opened) (fault : CliFault) → IsOfInputs fault → IsGoodOpening pit opening → IsDeskFault pit opening fault → ⊥

abbrev pub IsOneOpening : Type 0
IsOneOpening =
    (pit : Pit) (opening : Opened) (fault other : CliFault) → IsOfInputs fault → IsOfInputs other → IsDeskFault pit opening fault → IsDeskFault pit opening other → fault ≡ other

pub one-beginning : ((pit : Pit) (begun : Begun) → ((opening : Opened) × IsOpeningOf pit begun opening) ⊎ ((fault : CliFault) × IsOfInputs fault × IsOpeningFault pit begun fault))
    → ((pit : Pit) (begun : Begun) (opening other : Opened) → IsOpeningOf pit begun opening → IsOpeningOf pit begun other → opening ≡ other)
    → ((pit : Pit) (begun : Begun) (opening : Opened) (fault : CliFault) → fault ≢ cli.NoMemory → IsOpeningOf pit begun opening → IsOpeningFault pit begun fault → ⊥)
    → ((pit : Pit) (begun : Begun) (fault other : CliFault) → fault ≢ cli.NoMemory → other ≢ cli.NoMemory → IsOpeningFault pit begun fault → IsOpeningFault pit begun other → fault ≡ other)
    → IsOneBeginning
one-beginning some same apart faults =
    λ pit begun. record { some = some pit begun; once = record { values = same pit begun; apart = apart pit begun; faults = faults pit begun } }

-- ---- the number of planners

tells_count : (planners : ℕ) → IsPlannerCount planners ⊎ (IsPlannerCount planners → ⊥)
tells_count planners =
    elim (leb_tells 1 planners) [
      | inr none ↦ inr (λ is. omega (arith, none.1, is.0))
      | inl some ↦
          elim (leb_tells planners PLANNERS_MAX) [
            | inl few ↦ inl (some.1, few.1)
            | inr many ↦ inr (λ is. omega (arith, many.1, is.1))
          ]
    ]

abbrev IsWrongCount : Setup → CliFault → Type 0
IsWrongCount setup fault = (fault ≡ cli.PlannerCount) × (IsPlannerCount (length (scripts_in setup)) → ⊥)

some_count : (setup : Setup) → IsPlannerCount (length (scripts_in setup)) ⊎ (IsPlannerCount (length (scripts_in setup)) → ⊥)
    → IsPlannerCount (length (scripts_in setup)) ⊎ ((fault : CliFault) × IsOfInputs fault × IsWrongCount setup fault)
some_count setup (inl count) = inl count
some_count setup (inr wrong) = inr (cli.PlannerCount, refl, (refl, wrong))

count_decided : (setup : Setup) → IsDecided IsOfInputs count_judged setup
count_decided setup =
    pass-decided IsOfInputs (λ (s : Setup). IsPlannerCount (length (scripts_in s))) IsWrongCount setup (some_count setup (tells_count (length (scripts_in setup))))
    (λ fault due p q. q.1 p) (λ fault other due also p q. p.0 ∙ sym q.0)

-- ---- no fault is of another kind

judged_early : (setup : Setup) (fault : CliFault) → (in_turn desk_judged count_judged).Fails setup fault → IsEarly fault
judged_early setup fault (inl p) = refusal_early (pit_in setup) (opening_in setup) fault p.0
judged_early setup fault (inr p) = inl (ap fault_status p.2.0)

pub plan_early : (texts : Texts) (fault : CliFault) → (plan_judged texts).Fails tt fault → IsEarly fault
plan_early texts fault (inl p) = texts_early texts fault p.0
plan_early texts fault (inr p) = judged_early p.0 fault p.2

module _ (beginnings : IsOneBeginning) (some_opening : IsSomeOpening) (opening_apart : IsOpeningApart) (one_opening : IsOneOpening) where
  desk_decided : (setup : Setup) → IsDecided IsOfInputs desk_judged setup
  desk_decided setup =
      pass-decided IsOfInputs (λ (s : Setup). IsGoodOpening (pit_in s) (opening_in s)) (λ (s : Setup). IsDeskFault (pit_in s) (opening_in s)) setup (some_opening (pit_in setup) (opening_in setup))
      (opening_apart (pit_in setup) (opening_in setup)) (one_opening (pit_in setup) (opening_in setup))

  pub plan_decided : (texts : Texts) → IsDecided IsOfInputs (plan_judged texts) tt
  plan_decided texts =
      in_turn-decided IsOfInputs (texts_judged texts) (in_turn desk_judged count_judged) tt (tt, tt) (texts_decided beginnings texts)
      (λ (setup : Setup). in_turn-decided IsOfInputs desk_judged count_judged setup tt (desk_decided setup) count_decided)

  some_end : (texts : Texts) → ((setup : Setup) × (plan_judged texts).Gives tt setup) ⊎ ((fault : CliFault) × IsOfInputs fault × (plan_judged texts).Fails tt fault)
      → MayRun texts ⊎ ((fault : CliFault) × AreRefused texts fault)
  some_end texts (inl may) = inl may
  some_end texts (inr bad) = inr (bad.0, (bad.2, bad.1))

  pub may_or_refused : (texts : Texts) → MayRun texts ⊎ ((fault : CliFault) × AreRefused texts fault)
  may_or_refused texts = some_end texts (plan_decided texts).some

  pub never_refused : (texts : Texts) (fault : CliFault) → MayRun texts → AreRefused texts fault → ⊥
  never_refused texts fault may are = (plan_decided texts).once.apart may.0 fault are.1 may.1 are.0

  pub one_refusal : (texts : Texts) (fault other : CliFault) → AreRefused texts fault → AreRefused texts other → fault ≡ other
  one_refusal texts fault other p q = (plan_decided texts).once.faults fault other p.1 q.1 p.0 q.0
