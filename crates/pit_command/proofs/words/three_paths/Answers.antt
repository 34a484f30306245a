use Rattle.std.proofs.Common.{rules, refl, arith}
use Rattle.pit_command.proofs.words.three_paths.Goals as goal

pub returns-in_default-path_of-clause-err : goal.returns-in_default-path_of-clause-err
returns-in_default-path_of-clause-err c = ((1, c.args.second, omega arith, refl, search rules), refl)

pub returns-in_default-path_of-2-clause-err : goal.returns-in_default-path_of-2-clause-err
returns-in_default-path_of-2-clause-err c = ((2, c.args.third, omega arith, refl, search rules), refl)
