use Rattle.std.specs.Str.Parse.{ParsesUnsigned, ExplainsUnsignedError, HasUnsignedDigitsIfOk}
use Rattle.pit_command.proofs.Numbers.{number_is}
use Rattle.pit_command.proofs.argument.from_of.Goals as goal

pub returns : goal.returns
returns c =
    number_is _ 32 (λ bs r. ParsesUnsigned 32 10 bs r × ExplainsUnsignedError 10 bs r × HasUnsignedDigitsIfOk bs r) (λ u x g. g.0)
    c.args.given.now _ c.get_one.result (λ none. c.get_one.ensures.none none) (λ text at. c.get_one.ensures.value text at)
