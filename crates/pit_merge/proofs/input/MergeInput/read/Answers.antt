use Rattle.std.proofs.Common.{inl}
use Rattle.pit_opening.proofs.CallerLemmas.{begin-left}
use Rattle.pit_merge.proofs.input.MergeInput.read.Goals as goal

pub returns-in-Err-clause-read : goal.returns-in-Err-clause-read
returns-in-Err-clause-read g c = inl (c.in-Err.ensures, (begin-left g.S.Source.remaining g.S.Source.has_failed c.args.is_carried_on c.args.start.now, tt))
