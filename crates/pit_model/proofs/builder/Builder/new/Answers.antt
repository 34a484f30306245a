use Rattle.std.proofs.Common.{rules}
use Rattle.pit_model.proofs.Sound.{IsSound-from_empty}
use Rattle.pit_model.proofs.builder.Builder.new.Goals as goal

pub invariant_of-result : goal.invariant_of-result
invariant_of-result g c =
    IsSound-from_empty _ c.args.blocks c.args.periods c.args.resources c.args.rate (search rules) c.requires.blocks c.requires.periods c.requires.resources c.requires.rate
