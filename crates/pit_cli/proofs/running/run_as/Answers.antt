use Rattle.std.proofs.Common.{Bool, IfOk, IfErr, map, sym, subst}
use Rattle.pit_cli.specs.Inside.Runs.{IsFaultOn}
use Rattle.pit_cli.specs.Planning.{AreDone}
use Rattle.pit_cli.proofs.running.run_as.Goals as goal

pub returns-then-options-clause-err : goal.returns-then-options-clause-err
returns-then-options-clause-err g c =
    let desk = c.args.desk in
    subst (λ (turns : Bool). IfErr c.run_turns.result (IsFaultOn turns desk.plan.pit desk.history desk.max_entries c.args.options.retries (map (λ script. script.jobs) c.args.scripts.now))) (sym c.if-options.true)
    c.run_turns.ensures.err

pub returns-clause-ok : goal.returns-clause-ok
returns-clause-ok g c =
    let desk = c.args.desk in
    subst (λ (turns : Bool). IfOk c.run_on.result (λ report. AreDone turns desk.plan.pit desk.history desk.max_entries c.args.options.retries (map (λ script. script.jobs) c.args.scripts.now) (report.closed, report.runs.items)))
    (sym c.if-options.false) c.run_on.ensures.ok

pub returns-clause-err : goal.returns-clause-err
returns-clause-err g c =
    let desk = c.args.desk in
    subst (λ (turns : Bool). IfErr c.run_on.result (IsFaultOn turns desk.plan.pit desk.history desk.max_entries c.args.options.retries (map (λ script. script.jobs) c.args.scripts.now))) (sym c.if-options.false)
    c.run_on.ensures.err
