use Rattle.std.proofs.Common.{ℕ, map, rules, subst, sym, ◌∙◌}
use Rattle.std.proofs.lemmas.List.{length-map}
use Rattle.pit_share.specs.Opening.{IsOpenError, IsPlannerCount}
use Rattle.pit_run.specs.Reports.{IsUnclosed}
use Rattle.pit_cli.proofs.running.run_in.Goals as goal

pub returns-in-Err-clause-err : goal.returns-in-Err-clause-err
returns-in-Err-clause-err g c =
    let jobs = map (λ script. script.jobs) c.args.scripts.now in
    c.workspace_fault.ensures g.S.Session.instance g.S.Session.opening g.S.Session.max_entries c.args.retries jobs
    (subst (λ (n : ℕ). IsOpenError n c.in-Err.error) (sym (length-map c.args.scripts.now (λ script. script.jobs) ∙ c.requires.each)) c.in-Err.ensures.err)

pub returns-clause-err : goal.returns-clause-err
returns-clause-err g c =
    let jobs = map (λ script. script.jobs) c.args.scripts.now in
    let logs = c.in-Err-NotClosed.field-0-1.items in
    let cause = c.in-Err-NotClosed.field-0-2 in
    let unclosed : IsUnclosed g.S.Session.instance g.S.Session.opening g.S.Session.max_entries c.args.retries jobs logs cause = search rules in
    (subst IsPlannerCount (sym (length-map c.args.scripts.now (λ script. script.jobs) ∙ c.requires.each)) c.in-Ok.ensures.count, (logs, cause, unclosed))
