use Rattle.pit_text.proofs.Plain.{two_fields}
use Rattle.pit_text.proofs.cutting.plain.pair_line.Goals as goal

pub returns : goal.returns
returns c = two_fields c.args.text.now c.in_ok-first.behind.now c.in_ok-second.rest.now c.in_ok-first.first c.in_ok-second.second c.in_ok-first.ensures c.in_ok-second.ensures
