use Rattle.std.proofs.Common.{rules, inr, refl}
use Rattle.pit_command.proofs.PairsGiven.{few_given, pairs_given}
use Rattle.pit_command.proofs.argument.streams_of.Goals as goal

pub returns-then-not-are_pairs-clause-err : goal.returns-then-not-are_pairs-clause-err
returns-then-not-are_pairs-clause-err c = inr (few_given c.args.given.now c.in-Some.words.now (search rules) (search rules), pairs_given c.args.given.now c.in-Some.words.now _ (search rules) (search rules), refl)

pub returns-clause-pairs : goal.returns-clause-pairs
returns-clause-pairs c = pairs_given c.args.given.now c.in-Some.words.now _ (search rules) (search rules)
