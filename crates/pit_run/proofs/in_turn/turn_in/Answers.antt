use Rattle.std.proofs.Common.{◌∙◌, ◌+◌, ℕ, List, [], map, slice_index_or, refl, subst}
use Rattle.pit_script.specs.Jobs.{Job}
use Rattle.pit_share.specs.Logs.{HasEachLog}
use Rattle.pit_share.specs.Opening.{IsOpenError}
use Rattle.pit_run.specs.Inside.Turns.{IsUnclosedTurn}
use Rattle.pit_run.proofs.in_turn.turn_in.Goals as goal

pub returns-in-Err-clause-err : goal.returns-in-Err-clause-err
returns-in-Err-clause-err g c =
    let runner = c.args.runner.now in
    let script = slice_index_or (map {B = List Job} (λ script. script.jobs) runner.scripts) c.args.k [] in
    c.open_error.ensures g.S.Session.instance g.S.Session.opening g.S.Session.max_entries g.S.Session.planners runner.retries (c.args.k + 1) script
    (subst (λ (n : ℕ). IsOpenError n c.in-Err.error) (c.planners-planners.ensures ∙ c.requires.planners) c.in-Err.ensures.err)

pub returns-in-Err-close-clause-err : goal.returns-in-Err-close-clause-err
returns-in-Err-close-clause-err g c =
    let runner = c.args.runner.now in
    let script = slice_index_or (map {B = List Job} (λ script. script.jobs) runner.scripts) c.args.k [] in
    let logs = c.take_turn-logs.result.0.items in
    let seats = c.in-Ok.ensures.seats.many ∙ (c.planners-planners.ensures ∙ c.requires.planners) in
    let unclosed : IsUnclosedTurn g.S.Session.instance g.S.Session.opening g.S.Session.max_entries g.S.Session.planners runner.retries (c.args.k + 1) script c.in-Err-close.cause = record {
      logs = logs;
      run = c.take_turn-logs.result.1;
      took = c.take_turn-logs.ensures.took;
      whole = subst (λ (n : ℕ). HasEachLog n logs) seats c.take_turn-logs.ensures.each;
      refused = c.in-Err-close.ensures.err;
    } in
    (refl, unclosed)
