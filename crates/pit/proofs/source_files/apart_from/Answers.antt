use Rattle.pit.proofs.source_files.apart_from.Goals as goal

pub returns-in-Some-clause-apart : goal.returns-in-Some-clause-apart
returns-in-Some-clause-apart g c = rw c.in-Some.is c.are_apart.ensures.apart
