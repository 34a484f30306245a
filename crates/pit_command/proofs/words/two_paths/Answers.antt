use Rattle.std.proofs.Common.{rules, refl, arith}
use Rattle.pit_command.proofs.words.two_paths.Goals as goal

pub returns-in_default-path_of-clause-err : goal.returns-in_default-path_of-clause-err
returns-in_default-path_of-clause-err c = ((1, c.args.second, omega arith, refl, search rules), refl)
