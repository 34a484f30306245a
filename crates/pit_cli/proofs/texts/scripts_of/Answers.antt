use Rattle.std.proofs.Common.{◌≡◌, All, IfOk, Result, Ok, Err, MatchResult, inl, inr, map, refl, subst}
use Rattle.pit_model.specs.Pit.{Pit}
use Rattle.pit_step.specs.Steps.{Step, in_turn, may_step, each}
use Rattle.pit_step.proofs.CallerLemmas.{IsOfInputs, each-untouched}
use Rattle.pit_cli.specs.Texts.{script_judged}
use Rattle.pit_cli.proofs.texts.scripts_of.Goals as goal

pub returns-in_default-clause-result : goal.returns-in_default-clause-result
returns-in_default-clause-result g c = inl (refl, each-untouched IsOfInputs (script_judged c.args.pit.now) (λ number bytes. tt) 1 _)

-- what comes of a step comes of it behind one that may be out of memory
behind_may : {F X B : Type 0} (wants : F) (next : Step F (Unit {0}) B) (value_of : X → B) (r : Result X F) → MatchResult r (λ x. next.Gives tt (value_of x)) (next.Fails tt)
    → MatchResult r (λ x. (in_turn (may_step wants) next).Gives tt (value_of x)) ((in_turn (may_step wants) next).Fails tt)
behind_may wants next value_of (Ok x) h = (tt, (refl, tt), h)
behind_may wants next value_of (Err e) h = inr (tt, (refl, tt), h)

pub returns-clause-result : goal.returns-clause-result
returns-clause-result g c =
    let texts = map (λ bytes. bytes.items) c.args.texts.now in
    behind_may _ (each (script_judged c.args.pit.now) 1 texts) (λ scripts. map (λ script. script.jobs) scripts.items) c.each_script.result
    (subst (λ (p : Pit). MatchResult c.each_script.result (λ scripts. (each (script_judged p) 1 texts).Gives tt (map (λ script. script.jobs) scripts.items)) ((each (script_judged p) 1 texts).Fails tt))
    c.in-Ok.ensures c.each_script.ensures.result)

pub returns-clause-pits : goal.returns-clause-pits
returns-clause-pits g c =
    subst (λ (p : Pit). IfOk c.each_script.result (λ scripts. All (λ script. script.pit ≡ p) scripts.items)) c.in-Ok.ensures c.each_script.ensures.pits
