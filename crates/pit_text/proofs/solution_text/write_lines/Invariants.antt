use Rattle.std.proofs.Common.{◌≡◌, ◌≤◌, None, [], length, take, slice_index_or}
use Rattle.pit_text.specs.Solution.{schedule_of}
use Rattle.pit_text.specs.SolutionText.{solution_text}
use Rattle.pit_text.specs.Inside.SolutionText.{Gathers}
use Rattle.pit_text.proofs.solution_text.write_lines.Given as goal

abbrev pub invariant-loop-block : goal.invariant-loop-block
invariant-loop-block g l = record {
  gathered : Gathers (g.W.Sink.contents l.fn.w) (g.W.Sink.contents l.w) [] (solution_text (schedule_of l.block (λ b. slice_index_or l.fn.periods b None))) (take l.held l.chunk);
  within : l.held ≤ length l.chunk;
  untouched : l.held ≡ 0 → (l.w ≡ l.fn.w) × (solution_text (schedule_of l.block (λ b. slice_index_or l.fn.periods b None)) ≡ []);
}
