use Rattle.pit_text.proofs.OneResult.{one_result, one_whole_result}
use Rattle.pit_text.proofs.laws.one_result.Goals as goal

pub returns-clause-lines : goal.returns-clause-lines
returns-clause-lines g c = one_result

pub returns-clause-whole : goal.returns-clause-whole
returns-clause-whole g c = one_whole_result
