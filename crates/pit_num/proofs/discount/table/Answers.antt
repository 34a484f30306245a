use Rattle.std.proofs.Common.{◌≡◌, ℕ, ◌+◌, ◌*◌, pos, ap, sym, arith, ◌∙◌, rules, length, to_z, w64, ◌^◌}
use Rattle.std.proofs.lemmas.Int.{to_z_pos}
use Rattle.pit_num.specs.Factor.{factor}
use Rattle.pit_num.specs.Rounding.{nearest}
use Rattle.pit_num.proofs.Factors.{factor_first, factor_next, factors_push}
use Rattle.pit_num.proofs.discount.table.Goals as goal

pub loop-init : goal.loop-init
loop-init g c = record {
  count = search rules;
  so_far = search rules;
  next = sym (factor_first c.args.rate);
  bound = omega arith;
}

pub loop-preserved : goal.loop-preserved
loop-preserved g c =
    let before : c.loop.factor ≡ factor c.args.rate (length c.loop.factors.items) = c.loop.invariant.next ∙ ap (λ (t : ℕ). factor c.args.rate t) (sym c.loop.invariant.count) in
    let value : to_z w64 c.loop.factor ≡ pos (factor c.args.rate (length c.loop.factors.items)) = to_z_pos w64 c.loop.factor (omega arith) ∙ ap (λ (n : ℕ). pos n) before in
    record {
      count = search rules;
      so_far = factors_push c.args.rate c.loop.factors.items c.push.new.self.items (to_z w64 c.loop.factor) c.loop.invariant.so_far value c.in_ok-push.ensures.items;
      next = c.next-factor.ensures.value ∙ ap (λ (n : ℕ). nearest (n * 10 ^ 6) (10 ^ 6 + c.args.rate)) c.loop.invariant.next ∙ sym (factor_next c.args.rate c.loop.counter);
      bound = omega arith;
    }
