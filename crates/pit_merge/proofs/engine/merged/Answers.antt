use Rattle.std.proofs.Common.{inl}
use Rattle.pit_merge.proofs.Taken.{untouched}
use Rattle.pit_merge.proofs.engine.merged.Goals as goal

pub returns-in-Err-clause-taken : goal.returns-in-Err-clause-taken
returns-in-Err-clause-taken g c = inl (c.in-Err.ensures, untouched g.E.Source.remaining g.E.Source.has_failed c.args.options 1 c.args.edits.now)
