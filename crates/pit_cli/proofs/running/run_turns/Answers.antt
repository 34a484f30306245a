use Rattle.std.proofs.Common.{ℕ, map, sym, subst}
use Rattle.std.proofs.lemmas.List.{length-map}
use Rattle.pit_run.specs.Turns.{IsInTurn, IsInTurnError}
use Rattle.pit_run.specs.declared.report.InTurnError.{InTurnError}
use Rattle.pit_cli.proofs.running.run_turns.Goals as goal

pub returns-in-Ok-clause-ok : goal.returns-in-Ok-clause-ok
returns-in-Ok-clause-ok g c = record {
  report = c.in-Ok.ensures.ok;
  turns = λ asked.
      subst (λ (n : ℕ). IsInTurn n c.args.desk.history c.in-Ok.report.closed.history) (sym (length-map c.args.scripts.now (λ script. script.jobs))) c.in-Ok.ensures.in_turn;
  had_turns = λ asked. c.in-Ok.ensures.had_turns;
}

pub returns-in-Err-PlannerCount-clause-err : goal.returns-in-Err-PlannerCount-clause-err
returns-in-Err-PlannerCount-clause-err g c =
    subst (λ (e : InTurnError). IsInTurnError c.args.desk.plan.pit c.args.desk.history c.args.desk.max_entries c.args.retries (map (λ script. script.jobs) c.args.scripts.now) e)
    c.in-Err-PlannerCount.field-0-is c.in-Err-PlannerCount.ensures.err
