use Rattle.pit_model.proofs.deposit.Deposit.coefs.Goals as goal

pub returns-clause-sound : goal.returns-clause-sound
returns-clause-sound g c = rw (c.row.ensures, c.deref.ensures, ← c.self.view_is) (c.self.invariant.0.coefs c.args.b)
