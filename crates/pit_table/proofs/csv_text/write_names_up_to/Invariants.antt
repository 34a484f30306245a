use Rattle.std.specs.Prelude.{flat_map}
use Rattle.std.specs.List.{range_with_len}
use Rattle.std.specs.Io.KnownBytes.{Appends}
use Rattle.pit_table.specs.CsvText.{behind_commas, names_of}
use Rattle.pit_table.proofs.csv_text.write_names_up_to.Given as goal

abbrev pub invariant-loop-r : goal.invariant-loop-r
invariant-loop-r g l = Appends (g.W.Sink.contents l.fn.w) (g.W.Sink.contents l.w) (behind_commas (flat_map names_of (range_with_len 0 l.r)))
