use Rattle.std.proofs.Common.{◌≡◌, ◌≤◌, List, length, map, take, vec_capacity}
use Rattle.pit_script.specs.Jobs.{Job}
use Rattle.pit_run.specs.Turns.{DidInTurn}
use Rattle.pit_run.proofs.in_turn.turns.Given as goal

abbrev pub invariant-loop-k : goal.invariant-loop-k
invariant-loop-k g l = record {
  many : length l.runs.items ≡ l.k;
  room : length l.runner.scripts ≤ vec_capacity l.runs;
  did : DidInTurn l.fn.desk.plan.pit l.fn.desk.history l.fn.desk.max_entries l.runner.retries (length l.runner.scripts) (take l.k (map {B = List Job} (λ script. script.jobs) l.runner.scripts)) l.closed l.runs.items;
}
