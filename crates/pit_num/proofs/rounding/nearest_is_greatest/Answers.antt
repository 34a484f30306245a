use Rattle.pit_num.proofs.Nearest.{nearest_greatest, greatest_alone}
use Rattle.pit_num.proofs.rounding.nearest_is_greatest.Goals as goal

pub returns-clause-greatest : goal.returns-clause-greatest
returns-clause-greatest c = nearest_greatest

pub returns-clause-alone : goal.returns-clause-alone
returns-clause-alone c = greatest_alone
