use Rattle.std.proofs.Common.{Some, ap, sym, ◌∙◌}
use Rattle.pit_info.specs.Unknown.{is_known}
use Rattle.pit_info.proofs.Spans.{goes-known, goes-on}
use Rattle.pit_info.proofs.unknown.next_span.Goals as goal

pub returns-then-is_known : goal.returns-then-is_known
returns-then-is_known g c = λ run line number key is.
    goes-known (g.W.Sink.contents c.args.w.now) (g.W.Sink.contents c.write_span.new.w) run line c.args.span (ap is_known key ∙ sym c.is_known.ensures ∙ c.if-is_known.true) is c.in_ok-write_span.ensures

pub returns : goal.returns
returns g c = λ run line number key is.
    goes-on (g.W.Sink.contents c.args.w.now) run line c.args.span (Some c.longer.result) (ap is_known key ∙ sym c.is_known.ensures ∙ c.if-is_known.false) is (c.longer.ensures run line number key is.is)
