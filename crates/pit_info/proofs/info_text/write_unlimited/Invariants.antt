use Rattle.std.specs.List.{filter, range_with_len}
use Rattle.std.specs.Io.KnownBytes.{Appends}
use Rattle.pit_info.specs.Figures.{is_unlimited}
use Rattle.pit_info.specs.InfoText.{unlimited_text}
use Rattle.pit_info.proofs.info_text.write_unlimited.Given as goal

abbrev pub invariant-loop-r : goal.invariant-loop-r
invariant-loop-r g l = Appends (g.W.Sink.contents l.fn.w) (g.W.Sink.contents l.w) (unlimited_text (filter (is_unlimited l.pit) (range_with_len 0 l.r)))
