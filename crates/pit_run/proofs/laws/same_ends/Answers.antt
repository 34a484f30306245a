use Rattle.pit_run.proofs.SameEnds.{runs-same, commits-same}
use Rattle.pit_run.proofs.laws.same_ends.Goals as goal

pub returns : goal.returns
returns c = λ pit opening max_entries retries scripts history other runs others value worth a b served other_served. (
  runs-same pit opening max_entries retries scripts history other runs others value worth a b served other_served,
  commits-same pit opening max_entries retries scripts history other runs others value worth a b served other_served,
)
