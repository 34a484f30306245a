use Rattle.std.proofs.Common.{decimal, sym, subst, arith}
use Rattle.std.specs.Str.{IsUtf8}
use Rattle.std.proofs.lemmas.Fmt.{IsAscii-decimal}
use Rattle.std.proofs.lemmas.Str.{IsUtf8-from_ascii}
use Rattle.pit_base.proofs.mark.printed.Goals as goal

pub returns-in-Err : goal.returns-in-Err
returns-in-Err c = λ n few same. c.in-Err.ensures.cases.0 (subst IsUtf8 (sym same) (IsUtf8-from_ascii (decimal n) (IsAscii-decimal n (omega (arith, few)))))
