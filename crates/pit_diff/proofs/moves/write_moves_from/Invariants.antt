use Rattle.std.proofs.Common.{ℕ, Some}
use Rattle.std.specs.Prelude.{flat_map}
use Rattle.std.specs.List.{range_with_len}
use Rattle.std.specs.Io.KnownBytes.{Appends}
use Rattle.pit_diff.specs.Changes.{move_of}
use Rattle.pit_diff.specs.DiffText.{moves_text}
use Rattle.pit_diff.specs.Inside.Table.{table_number}
use Rattle.pit_diff.proofs.moves.write_moves_from.Given as goal

abbrev pub invariant-loop-t : goal.invariant-loop-t
invariant-loop-t g l =
    Appends (g.W.Sink.contents l.fn.w) (g.W.Sink.contents l.w) (flat_map (λ (t : ℕ). moves_text (move_of l.from (Some t) (table_number l.periods l.counts l.from (Some t)))) (range_with_len 0 l.t))
