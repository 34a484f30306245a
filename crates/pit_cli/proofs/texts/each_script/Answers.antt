use Rattle.std.proofs.Common.{◌≡◌, ◌+◌, All, List, ℕ, inr, map, take, ap, subst, sym, ◌∙◌}
use Rattle.std.proofs.lemmas.List.{map_push}
use Rattle.std.proofs.lemmas.List.Elements.{All-push}
use Rattle.pit_script.specs.Jobs.{Job}
use Rattle.pit_step.specs.Steps.{each}
use Rattle.pit_step.proofs.CallerLemmas.{IsOfInputs, handed_on, each-goes_on, each-stops, each-untouched}
use Rattle.pit_cli.specs.Texts.{IsScriptOf, IsScriptFault, script_judged}
use Rattle.pit_cli.proofs.texts.each_script.Goals as goal

pub returns-in_err-script-clause-result : goal.returns-in_err-script-clause-result
returns-in_err-script-clause-result g c =
    let pit = c.args.benches.now in
    let fault = c.in_err-script.field-0.0 in
    handed_on c.from_residual.result fault _ _ c.from_residual.ensures.0 c.from_residual.ensures.1
    (each-stops (script_judged pit) (λ bytes. bytes.items) c.args.texts.now c.loop-i.i c.index-texts-i.result c.loop-i-test.true c.index-texts-i.is _ c.loop-i.invariant.0
    fault (λ n. each-untouched IsOfInputs (script_judged pit) (λ k bytes. tt) n _) (subst (λ (xs : List ℕ). IsScriptFault pit (c.loop-i.i + 1) xs fault) c.deref.ensures.value c.in_err-script.ensures.result))

pub loop-i-preserved : goal.loop-i-preserved
loop-i-preserved g c =
    let pit = c.args.benches.now in
    let all = map (λ bytes. bytes.items) c.args.texts.now in
    let script = c.in_ok-script.script in
    let more = each-goes_on (script_judged pit) (λ bytes. bytes.items) c.args.texts.now c.loop-i.i c.index-texts-i.result c.loop-i-test.true c.index-texts-i.is _ c.loop-i.invariant.0
    script.jobs (subst (λ (xs : List ℕ). IsScriptOf pit xs script.jobs) c.deref.ensures.value c.in_ok-script.ensures.result) in
    let same = c.in_ok-push_script.ensures.ok in (
      subst (λ (xs : List (List Job)). (each (script_judged pit) 1 (take (c.loop-i.i + 1) all)).Gives tt xs) (sym (ap (λ xs. map (λ s. s.jobs) xs) same ∙ map_push (λ s. s.jobs) c.loop-i.scripts.items script)) more,
      subst (λ xs. All (λ s. s.pit ≡ pit) xs) (sym same) (All-push (λ s. s.pit ≡ pit) c.loop-i.scripts.items script c.loop-i.invariant.1 c.in_ok-script.ensures.pit),
    )

pub returns-in_err-push_script-clause-result : goal.returns-in_err-push_script-clause-result
returns-in_err-push_script-clause-result g c =
    let pit = c.args.benches.now in
    let script = c.in_ok-script.script in
    handed_on c.from_residual-in_err-push_script.result c.in_err-push_script.field-0.0 _ _ c.from_residual-in_err-push_script.ensures.0 c.from_residual-in_err-push_script.ensures.1
    (each-stops (script_judged pit) (λ bytes. bytes.items) c.args.texts.now c.loop-i.i c.index-texts-i.result c.loop-i-test.true c.index-texts-i.is _ c.loop-i.invariant.0
    _ (λ n. each-untouched IsOfInputs (script_judged pit) (λ k bytes. tt) n _)
    (rw c.in_err-push_script.ensures.err (inr (script.jobs, subst (λ (xs : List ℕ). IsScriptOf pit xs script.jobs) c.deref.ensures.value c.in_ok-script.ensures.result))))
