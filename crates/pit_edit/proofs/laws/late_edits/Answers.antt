use Rattle.pit_desk.specs.History.{commits_of}
use Rattle.pit_edit.proofs.Late.{moved-late}
use Rattle.pit_edit.proofs.laws.late_edits.Goals as goal

pub returns : goal.returns
returns c = λ pit before edit blocks reply seen due. moved-late (commits_of before) edit blocks pit reply seen due
