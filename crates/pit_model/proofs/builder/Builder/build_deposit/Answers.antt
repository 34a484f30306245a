use Rattle.pit_model.proofs.builder.Builder.build_deposit.Goals as goal

pub sorted-requires : goal.sorted-requires
sorted-requires g c b = (c.self.invariant.coefs b).rising
