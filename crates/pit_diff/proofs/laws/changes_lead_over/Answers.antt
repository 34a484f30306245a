use Rattle.pit_diff.proofs.LaidOver.{changes-lead}
use Rattle.pit_diff.proofs.laws.changes_lead_over.Goals as goal

pub returns : goal.returns
returns c = changes-lead
