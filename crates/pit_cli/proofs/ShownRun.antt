-- What is shown of the history of a run.
use Rattle.std.proofs.Common.{◌≡◌, ℕ, ◌≤◌, Bool, List, [], ◌∷◌, ◌++◌, length, get_or, Option, Some, None, IsSome, Result, All, refl, sym, ap, subst, ◌∙◌, arith}
use Rattle.std.specs.Prelude.{slice_get}
use Rattle.std.proofs.lemmas.Option.{slice_get-get_or}
use Rattle.pit_model.specs.Pit.{Pit}
use Rattle.pit_model.specs.Fitting.{Fits, RevisionsFit}
use Rattle.pit_plan.specs.Schedule.{held_period}
use Rattle.pit_text.specs.Added.{pit_with}
use Rattle.pit_text.specs.Precedence.{with_preds_fact}
use Rattle.pit_text.specs.Blocks.{with_place_fact}
use Rattle.pit_text.specs.Solution.{schedule_of}
use Rattle.pit_text.specs.SolutionText.{solution_text}
use Rattle.pit_desk.specs.History.{Answered, Call, CallFits, commits_of}
use Rattle.pit_lines.specs.Ranges.{IsInRange}
use Rattle.pit_lines.specs.Texts.{history_text}
use Rattle.pit_step.specs.declared.status.Status.{Status}
use Rattle.pit_step.specs.declared.fault.CliFault.{CliFault}
use Rattle.pit_step.specs.Devices.{Writing}
use Rattle.pit_step.specs.Inputs.{IsModel, IsOrder}
use Rattle.pit_step.specs.LineTexts.{left_text}
use Rattle.pit_step.proofs.CallerLemmas.{decided-model}
use Rattle.pit_state.specs.States.{EachFits}
use Rattle.pit_show.specs.Fronts.{IsFront}
use Rattle.pit_show.specs.ShowText.{history_comment}
use Rattle.pit_show.specs.Show.{IsShown}
use Rattle.pit_opening.specs.Beginnings.{is_unbegun}
use Rattle.pit_opening.specs.Openings.{Opened}
use Rattle.pit_cli.specs.declared.plan_options.PlanOptions.{PlanOptions}
use Rattle.pit_cli.specs.Texts.{Texts, Setup, ArePlacesOf, texts_judged}
use Rattle.pit_cli.specs.Planning.{Ran}
use Rattle.pit_output.specs.Outputs.{Keeping}
use Rattle.pit_cli.specs.Output.{outputs_of}
use Rattle.pit_cli.specs.Outcomes.{IsOfOneHistory}
use Rattle.pit_cli.specs.ShownRun.{IsShownRun}

-- ---- precedences and places leave a pit as large as it was

pub record IsAsLarge (pit other : Pit) : Type 0 where
  pub blocks : pit.blocks ≡ other.blocks
  pub periods : pit.periods ≡ other.periods
  pub resources : pit.resources ≡ other.resources

as-itself : (pit : Pit) → IsAsLarge pit pit
as-itself pit = record { blocks = refl; periods = refl; resources = refl }

as-both : (pit between other : Pit) → IsAsLarge pit between → IsAsLarge between other → IsAsLarge pit other
as-both pit between other p q = record { blocks = p.blocks ∙ q.blocks; periods = p.periods ∙ q.periods; resources = p.resources ∙ q.resources }

as-added : {F : Type 0} (with_fact : Pit → F → Pit) → ((pit : Pit) (fact : F) → IsAsLarge (with_fact pit fact) pit) → (pit : Pit) (facts : List F) → IsAsLarge (pit_with with_fact pit facts) pit
unfolding pit_with
as-added with_fact each pit [] = as-itself pit
as-added with_fact each pit (fact ∷ facts) =
    as-both (pit_with with_fact (with_fact pit fact) facts) (with_fact pit fact) pit (as-added with_fact each (with_fact pit fact) facts) (each pit fact)

as-ordered : (given pit : Pit) (bytes : List ℕ) → IsOrder given bytes pit → IsAsLarge pit given
as-ordered given pit bytes is =
    subst (λ (p : Pit). IsAsLarge p given) (sym is.says) (as-added with_preds_fact (λ p fact. record { blocks = refl; periods = refl; resources = refl }) given is.facts)

as-placed : (given pit : Pit) (places : Option (List ℕ)) → ArePlacesOf given places pit → IsAsLarge pit given
as-placed given pit None is = subst (λ (p : Pit). IsAsLarge p given) (sym is) (as-itself given)
as-placed given pit (Some bytes) is =
    subst (λ (p : Pit). IsAsLarge p given) (sym is.says) (as-added with_place_fact (λ p fact. record { blocks = refl; periods = refl; resources = refl }) given is.facts)

-- the pit of the texts is as large as that of their model
as-model : (texts : Texts) (setup : Setup) → (texts_judged texts).Gives tt setup → (bare : Pit) × IsModel texts.model bare × IsAsLarge setup.0.0 bare
as-model texts setup (pit, (bare, model, (ordered, order, places)), (given, opening, scripts)) =
    let same : setup.0.0 ≡ pit = ap (λ (both : Pit × Opened). both.0) scripts.0 ∙ opening.0 in
    let large = as-both pit ordered bare (as-placed ordered pit texts.blocks places) (as-ordered bare ordered texts.precedence order) in
    (bare, model, subst (λ (p : Pit). IsAsLarge p bare) (sym same) large)

-- ---- what fits the one fits the other

call-fits : (pit other : Pit) → IsAsLarge other pit → (call : Call) → CallFits other call → CallFits pit call
call-fits pit other large call fits = record {
  reads = subst (λ (n : ℕ). Fits pit.blocks n call.reads) large.periods (subst (λ (n : ℕ). Fits n other.periods call.reads) large.blocks fits.reads);
  writes = subst (λ (n : ℕ). Fits pit.blocks n call.writes) large.periods (subst (λ (n : ℕ). Fits n other.periods call.writes) large.blocks fits.writes);
  revises = subst (λ (n : ℕ). RevisionsFit pit.resources n call.revises) large.periods (subst (λ (n : ℕ). RevisionsFit n other.periods call.revises) large.resources fits.revises);
}

each-fits : (pit other : Pit) (history : List Answered) → IsAsLarge other pit → ((k : ℕ) (e : Answered) → slice_get history k ≡ Some e → CallFits other e.call) → EachFits pit history
each-fits pit other history large fits = λ k d below. call-fits pit other large (get_or history k d).call (fits k (get_or history k d) (slice_get-get_or history k d below))

-- ---- what is shown

module _ (some : (entries : List Answered) (count : ℕ) → count ≤ length (commits_of entries) → (front : List Answered) × IsFront entries count front)
    (once : (entries : List Answered) (count : ℕ) (front other : List Answered) → IsFront entries count front → IsFront entries count other → front ≡ other)
    (is_so : (pit : Pit) (history : List Answered) (answer : List ℕ) → All IsInRange history → IsShown None pit (history_text history) answer
    → (front : List Answered) × IsFront history (length (commits_of history)) front × (answer ≡ history_comment front ++ left_text pit (commits_of history)))
    (shown_so : (pit : Pit) (history front : List Answered) → All IsInRange history → EachFits pit history → IsFront history (length (commits_of history)) front
    → IsShown None pit (history_text history) (history_comment front ++ left_text pit (commits_of history))) where
  ran-shown : (pit : Pit) (is_new : Bool) (ran : Ran) → All IsInRange ran.0.history → EachFits pit ran.0.history → ran.0.plan.pit.blocks ≡ pit.blocks
      → IsShownRun pit ran.0.history (outputs_of is_new ran)
  ran-shown pit is_new ran range fits same =
      let history = ran.0.history in
      let count = length (commits_of history) in
      let found = some history count (omega arith) in
      let solution : left_text ran.0.plan.pit (commits_of history) ≡ left_text pit (commits_of history) = ap (λ (n : ℕ). solution_text (schedule_of n (held_period (commits_of history)))) same in
      let both = ap (λ (xs : List ℕ). history_comment found.0 ++ xs) solution in
      record {
        front = found.0;
        is_front = found.1;
        shown = λ answer. (
          λ shown.
              let told = is_so pit history answer range shown in
              told.2 ∙ (ap (λ (front : List Answered). history_comment front ++ left_text pit (commits_of history)) (once history count told.0 found.0 told.1 found.1) ∙ sym both),
          λ is. subst (λ (xs : List ℕ). IsShown None pit (history_text history) xs) (sym (is ∙ both)) (shown_so pit history found.0 range fits found.1),
        );
      }

  pub written-shown : (texts : Texts) (options : PlanOptions) (out lines : Writing) (kept : Option Keeping) (result : Result Status CliFault) (pit : Pit) (one : IsOfOneHistory texts options out lines kept result)
      → IsSome kept → IsModel texts.model pit → IsShownRun pit one.written.ran.0.history (outputs_of (is_unbegun texts.beginning) one.written.ran)
  written-shown texts options out lines kept result pit one there model =
      let ran : Ran = one.written.ran in
      let planned : Pit = ran.0.plan.pit in
      let found = as-model texts ((planned, one.one_history.opening), one.one_history.scripts) one.one_history.stand in
      let same : found.0 ≡ pit = (decided-model texts.model).once.values found.0 pit found.1 model in
      let large : IsAsLarge planned pit = subst (λ (p : Pit). IsAsLarge planned p) same found.2 in
      ran-shown pit (is_unbegun texts.beginning) ran (one.written.range there) (each-fits pit planned ran.0.history large one.one_history.one_thread.fits) large.blocks
