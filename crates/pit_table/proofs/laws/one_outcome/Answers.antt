use Rattle.pit_table.proofs.Outcome.{table_outcome}
use Rattle.pit_table.proofs.laws.one_outcome.Goals as goal

pub returns : goal.returns
returns c = table_outcome c.one_history.ensures.once c.one_result.ensures.either c.one_result.ensures.once
