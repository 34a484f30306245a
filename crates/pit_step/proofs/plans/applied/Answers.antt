use Rattle.std.proofs.Common.{[]}
use Rattle.pit_step.proofs.plans.applied.Goals as goal

pub apply-requires-clause-writes : goal.apply-requires-clause-writes
apply-requires-clause-writes g c = c.requires.fits

pub returns-in-Ok-clause-value : goal.returns-in-Ok-clause-value
returns-in-Ok-clause-value g c = (c.in-Ok.ensures.ok.pit, c.in-Ok.ensures.ok.stands [] c.requires.none)

pub returns-in-Err-clause-done : goal.returns-in-Err-clause-done
returns-in-Err-clause-done g c = c.in-Err.ensures.done
