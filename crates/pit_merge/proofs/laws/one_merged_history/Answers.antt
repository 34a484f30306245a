use Rattle.pit_merge.proofs.OneMerge.{written-merge}
use Rattle.pit_merge.proofs.laws.one_merged_history.Goals as goal

pub returns : goal.returns
returns c = written-merge
