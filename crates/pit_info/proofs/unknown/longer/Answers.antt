use Rattle.std.proofs.Common.{Option, refl, sym, subst}
use Rattle.pit_info.specs.declared.unknown.Span.{Span}
use Rattle.pit_info.specs.Inside.Spans.{IsSpanAt}
use Rattle.pit_info.proofs.Spans.{longer-more}
use Rattle.pit_info.proofs.unknown.longer.Goals as goal

pub returns : goal.returns
returns c = λ run line number key is.
    longer-more run line c.in-Some.span _ (subst (λ (s : Option Span). IsSpanAt run s) c.in-Some.is is) refl (sym number) refl
