use Rattle.std.proofs.Common.{ℕ, ℤ, List, ap, arith, ◌∙◌}
use Rattle.std.specs.List.{count_by}
use Rattle.pit_info.specs.Figures.{isnt_zero, coefs_at}
use Rattle.pit_info.proofs.Ranges.{sum_with}
use Rattle.pit_info.proofs.Few.{few-coefs}
use Rattle.pit_info.proofs.blocks.coefficients.Goals as goal

pub overflow_add-count : goal.overflow_add-count
overflow_add-count g c =
    let few = few-coefs c.args.pit.now.resources c.coefs.result.now c.coefs.ensures.sound in
    omega (arith, few, c.coefficients_among-count.ensures.few, c.loop-b.invariant.1, c.loop-b-test.true, c.blocks-b-end.ensures.count, c.blocks-b-end.ensures.sound.few_blocks, c.blocks-b-end.ensures.sound.few_resources)

pub loop-b-preserved : goal.loop-b-preserved
loop-b-preserved g c =
    let few = few-coefs c.args.pit.now.resources c.coefs.result.now c.coefs.ensures.sound in (
      sum_with (coefs_at c.args.pit.now) c.loop-b.b c.loop-b.count c.coefficients_among-count.result c.loop-b.invariant.0
          (c.coefficients_among-count.ensures.count ∙ ap (λ (pairs : List (ℕ × ℤ)). count_by (λ (pair : ℕ × ℤ). isnt_zero pair.1) pairs) c.coefs.ensures.value),
      omega (arith, few, c.coefficients_among-count.ensures.few, c.loop-b.invariant.1, c.blocks-b-end.ensures.sound.few_resources),
    )
