use Rattle.std.proofs.Common.{◌≡◌, ◌≤◌, ◌^◌, length}
use Rattle.pit_num.specs.Factor.{factor}
use Rattle.pit_num.specs.Inside.Factor.{AreFactors}
use Rattle.pit_num.proofs.discount.table.Given as goal

abbrev pub invariant-loop : goal.invariant-loop
invariant-loop g l = record {
  count : length l.factors.items ≡ l.counter;
  so_far : AreFactors l.rate l.factors.items;
  next : l.factor ≡ factor l.rate l.counter;
  bound : l.factor ≤ 10 ^ 12;
}
