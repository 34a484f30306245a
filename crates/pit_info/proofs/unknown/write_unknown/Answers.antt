use Rattle.std.proofs.Common.{◌≡◌, ℕ, List, is_some, true, false, refl, ap, sym, ◌∙◌}
use Rattle.pit_num.proofs.CallerLemmas.{map_ok}
use Rattle.pit_text.specs.Cutting.{cut_of}
use Rattle.pit_text.specs.Left.{cut_seen, lines_left}
use Rattle.pit_text.specs.Model.{section_of}
use Rattle.pit_info.specs.Unknown.{begins_section, header_of}
use Rattle.pit_info.proofs.Spans.{header-section, reads-none, reads-more, reads-end}
use Rattle.pit_info.proofs.unknown.write_unknown.Goals as goal

pub loop-line-init : goal.loop-line-init
loop-line-init g c = reads-none (g.W.Sink.contents c.args.w.now) (cut_of c.args.model.now) (lines_left c.new-lines.result) c.new-lines.ensures.lines

pub loop-line-preserved : goal.loop-line-preserved
loop-line-preserved g c =
    let other : begins_section (cut_seen c.in-Some.line) ≡ false =
    ap (λ (key : List ℕ). is_some (section_of key)) (sym c.key_field-key.ensures) ∙ ap (λ o. is_some o) (sym c.section_of.ensures) ∙ sym c.is_some.ensures ∙ c.if-is_some.false in
    reads-more (g.W.Sink.contents c.args.w.now) (g.W.Sink.contents c.loop-line.w) (g.W.Sink.contents c.next_span.new.w) (cut_of c.args.model.now) (lines_left c.loop-line.lines) (lines_left c.next.new.self)
    (cut_seen c.in-Some.line) c.loop-line.span c.in_ok-span.span c.loop-line.invariant c.in-Some.ensures.steps.0 other
    (λ run is. c.in_ok-span.ensures run (cut_seen c.in-Some.line) refl (sym c.key_field-key.ensures) is)

pub returns-then-is_some : goal.returns-then-is_some
returns-then-is_some g c =
    let begins : begins_section (cut_seen c.in-Some.line) ≡ true =
    ap (λ (key : List ℕ). is_some (section_of key)) (sym c.key_field-key.ensures) ∙ ap (λ o. is_some o) (sym c.section_of.ensures) ∙ sym c.is_some.ensures ∙ c.if-is_some.true in
    map_ok c.write_span.result
    (λ last. reads-end (g.W.Sink.contents c.args.w.now) (g.W.Sink.contents c.loop-line.w) (g.W.Sink.contents c.write_span.new.w) (cut_of c.args.model.now) (lines_left c.loop-line.lines)
    c.loop-line.span c.loop-line.invariant (ap header_of c.in-Some.ensures.steps.0 ∙ header-section (cut_seen c.in-Some.line) (lines_left c.next.new.self) begins) last)
    c.write_span.ensures

pub returns : goal.returns
returns g c =
    map_ok c.write_span-2.result
    (λ last. reads-end (g.W.Sink.contents c.args.w.now) (g.W.Sink.contents c.loop-line.w) (g.W.Sink.contents c.write_span-2.new.w) (cut_of c.args.model.now) (lines_left c.loop-line.lines)
    c.loop-line.span c.loop-line.invariant (ap header_of c.in_default.ensures.steps.0.0) last)
    c.write_span-2.ensures
