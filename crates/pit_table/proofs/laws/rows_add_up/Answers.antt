use Rattle.pit_table.proofs.Adding.{values-add_up, last-adds_up, blocks-add_up}
use Rattle.pit_table.proofs.laws.rows_add_up.Goals as goal

pub returns-clause-values : goal.returns-clause-values
returns-clause-values c = λ pit schedule in_range. values-add_up pit schedule in_range

pub returns-clause-last : goal.returns-clause-last
returns-clause-last c = λ pit schedule limit rows row in_range is. last-adds_up pit schedule limit rows row in_range is

pub returns-clause-blocks : goal.returns-clause-blocks
returns-clause-blocks c = λ pit schedule in_range. blocks-add_up pit schedule in_range
