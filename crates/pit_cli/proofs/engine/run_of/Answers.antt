use Rattle.std.proofs.Common.{inl, map, subst, sym}
use Rattle.std.proofs.lemmas.Result.{MatchResult-weaker}
use Rattle.pit_cli.specs.Texts.{texts_judged}
use Rattle.pit_cli.proofs.OpenDesk.{judged_gives, judged_fails}
use Rattle.pit_cli.proofs.engine.run_of.Goals as goal

pub returns-in-Err : goal.returns-in-Err
returns-in-Err g c = inl (inl (c.in-Err.ensures.result, (tt, tt)), tt)

pub returns : goal.returns
returns g c =
    let texts = c.args.input in
    let pit = c.in-Ok.inputs.pit in
    let opening = c.in-Ok.inputs.opening in
    let scripts = c.deref.result.now in
    let stands =
    subst (λ ys. (texts_judged texts).Gives tt ((pit, opening), map (λ script. script.jobs) ys)) (sym c.deref.ensures.value) c.in-Ok.ensures.result in
    MatchResult-weaker c.run_scripts.result c.run_scripts.ensures
    (λ report gives. judged_gives texts c.args.options ((pit, opening), map (λ script. script.jobs) scripts) (report.closed, report.runs.items) stands gives)
    (λ fault fails. judged_fails texts c.args.options ((pit, opening), map (λ script. script.jobs) scripts) fault stands fails)
