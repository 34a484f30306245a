use Rattle.std.proofs.Common.{rules, ◌≡◌, ℕ, ◌+◌, ◌++◌, [], List, None, Option, length, take, slice_index_or, ap, sym, ◌∙◌, subst, arith, refl}
use Rattle.pit_num.proofs.CallerLemmas.{failed_early_if_any}
use Rattle.pit_text.specs.Solution.{schedule_of}
use Rattle.pit_text.specs.SolutionText.{solution_text}
use Rattle.pit_text.specs.Inside.SolutionText.{slot_text, Gathers}
use Rattle.pit_text.proofs.SolutionTexts.{text_none, text_more, text_grows, gathers_none, gathers_more, gathers_front, has_line, none_held, held_of_some, last_written, untouched_more}
use Rattle.pit_text.proofs.solution_text.write_lines.Goals as goal

pub loop-block-init : goal.loop-block-init
loop-block-init g c =
    let none : solution_text (schedule_of 0 (λ b. slice_index_or c.args.periods.now b None)) ≡ [] = text_none (λ b. slice_index_or c.args.periods.now b None) in
    record {
      gathered = gathers_none (g.W.Sink.contents c.args.w.now) (solution_text (schedule_of 0 (λ b. slice_index_or c.args.periods.now b None))) none;
      within = search rules;
      untouched = λ _. (refl, none);
    }

pub loop-block-preserved : goal.loop-block-preserved
loop-block-preserved g c =
    let period : ℕ → Option ℕ = λ b. slice_index_or c.args.periods.now b None in
    let more = text_more c.loop-block.block period in
    record {
      gathered = subst (λ (xs : List ℕ). Gathers (g.W.Sink.contents c.args.w.now) (g.W.Sink.contents c.gather_slot.new.w) [] xs (take c.in_ok-held.held c.gather_slot.new.chunk)) (sym more)
          (gathers_more _ _ _ [] _ _ _ _ c.loop-block.invariant.gathered c.in_ok-held.ensures.ok);
      within = omega (arith, c.in_ok-held.ensures.within);
      untouched = λ zero_held.
          let kept = untouched_more (period c.loop-block.block) c.loop-block.block c.loop-block.held c.in_ok-held.held (solution_text (schedule_of c.loop-block.block period)) c.args.w.now c.loop-block.w c.gather_slot.new.w c.gather_slot.result
          (λ none. let same = c.gather_slot.ensures.none none in (same.0, same.1)) c.in_ok-held.was c.in_ok-held.ensures.held c.loop-block.invariant.untouched zero_held in
          (kept.0, more ∙ kept.1);
    }

pub returns-in_err-held : goal.returns-in_err-held
returns-in_err-held g c =
    let period : ℕ → Option ℕ = λ b. slice_index_or c.args.periods.now b None in
    let grown = text_grows c.loop-block.block (length c.args.periods.now) period (search rules) in
    let more = text_grows (c.loop-block.block + 1) (length c.args.periods.now) period (search rules) in
    failed_early_if_any _ _ _ _ _ c.from_residual.result c.from_residual.ensures.0
    (gathers_front _ _ _ _ _ _ grown.0 c.loop-block.invariant.gathered c.in_err-held.ensures.err grown.1)
    c.in_err-held.ensures.fault
    (has_line _ (solution_text (schedule_of c.loop-block.block period)) (slot_text c.loop-block.block (period c.loop-block.block)) more.0 c.in_err-held.ensures.some
    (more.1 ∙ ap (λ (xs : List ℕ). xs ++ more.0) (text_more c.loop-block.block period)))

pub returns : goal.returns
returns g c =
    let period : ℕ → Option ℕ = λ b. slice_index_or c.args.periods.now b None in
    let end : c.loop-block.block ≡ length c.args.periods.now = omega arith in
    let same : solution_text (schedule_of c.loop-block.block period) ≡ solution_text (schedule_of (length c.args.periods.now) period) = ap (λ (n : ℕ). solution_text (schedule_of n period)) end in
    last_written _ _ _ c.loop-block.w _ (solution_text (schedule_of c.loop-block.block period)) (take c.loop-block.held c.loop-block.chunk) _ c.write_text.result c.loop-block.invariant.gathered c.write_text.ensures same
    (held_of_some c.loop-block.held c.loop-block.chunk _ _ c.loop-block.invariant.within (λ zero_held. (c.loop-block.invariant.untouched zero_held).1) same)
    (λ none.
    let zero_held : c.loop-block.held ≡ 0 = none_held _ _ _ c.loop-block.chunk c.loop-block.held c.loop-block.invariant.gathered (same ∙ none) c.loop-block.invariant.within in
    (ap (λ (n : ℕ). take n c.loop-block.chunk) zero_held, (c.loop-block.invariant.untouched zero_held).0))
