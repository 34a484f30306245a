use Rattle.pit_num.proofs.Factors.{factor_first, factor_greatest}
use Rattle.pit_num.proofs.discount.factor_is_greatest.Goals as goal

pub returns-clause-first : goal.returns-clause-first
returns-clause-first c = factor_first

pub returns-clause-next : goal.returns-clause-next
returns-clause-next c = factor_greatest
