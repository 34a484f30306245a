use Rattle.pit_run.proofs.shared.Shared.script.Goals as goal

pub returns-clause-pit : goal.returns-clause-pit
returns-clause-pit g c = c.script.ensures.pit g.S.Session.instance c.self.invariant
