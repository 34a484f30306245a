use Rattle.pit_info.specs.Figures.{is_root}
use Rattle.pit_info.proofs.Ranges.{count_parts}
use Rattle.pit_info.proofs.laws.roots_and_others.Goals as goal

pub returns : goal.returns
returns c = λ pit. count_parts (is_root pit) pit.blocks
