use Rattle.std.proofs.Common.{ℕ, Some}
use Rattle.std.specs.Prelude.{flat_map}
use Rattle.std.specs.List.{range_with_len}
use Rattle.std.specs.Io.KnownBytes.{Appends}
use Rattle.pit_diff.specs.Changes.{moves_from}
use Rattle.pit_diff.specs.DiffText.{moves_text}
use Rattle.pit_diff.specs.Inside.Table.{table_number}
use Rattle.pit_diff.proofs.moves.write_moves.Given as goal

abbrev pub invariant-loop-t : goal.invariant-loop-t
invariant-loop-t g l =
    Appends (g.W.Sink.contents l.fn.w) (g.W.Sink.contents l.w) (flat_map (λ (t : ℕ). moves_text (moves_from l.periods (table_number l.periods l.counts) (Some t))) (range_with_len 0 l.t))
