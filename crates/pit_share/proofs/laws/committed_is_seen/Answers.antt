use Rattle.pit_share.proofs.Stands.{commit-seen, reads-seen}
use Rattle.pit_share.proofs.laws.committed_is_seen.Goals as goal

pub returns-clause-commit : goal.returns-clause-commit
returns-clause-commit c = commit-seen

pub returns-clause-reads : goal.returns-clause-reads
returns-clause-reads c = reads-seen
