use Rattle.std.proofs.Common.{OnOk, inl, map, sym, subst, ℕ}
use Rattle.std.proofs.lemmas.List.{length-map}
use Rattle.pit_model.specs.Pit.{Pit}
use Rattle.pit_share.specs.Opening.{IsPlannerCount}
use Rattle.pit_opening.specs.Openings.{IsDeskOn, IsDeskFault}
use Rattle.pit_cli.proofs.OpenDesk.{from_desk}
use Rattle.pit_cli.proofs.running.run_scripts.Goals as goal

pub returns-in-Err : goal.returns-in-Err
returns-in-Err g c = inl (subst (λ (pit : Pit). IsDeskFault pit c.args.opening c.in-Err.fault) c.keyed.ensures c.in-Err.ensures, (tt, tt))

pub returns-in-Ok : goal.returns-in-Ok
returns-in-Ok g c =
    from_desk ((c.args.pit, c.args.opening), map (λ script. script.jobs) c.args.scripts.now) c.args.options (λ report. (report.closed, report.runs.items)) c.in-Ok.desk
    (subst (λ (pit : Pit). IsDeskOn pit c.args.opening c.in-Ok.desk) c.keyed.ensures c.in-Ok.ensures) c.run_as.result
    (subst (λ (n : ℕ). OnOk c.run_as.result (IsPlannerCount n)) (sym (length-map c.args.scripts.now (λ script. script.jobs))) c.run_as.ensures.count)
    c.run_as.ensures.ok c.run_as.ensures.err
