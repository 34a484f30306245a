use Rattle.std.proofs.Common.{◌≡◌, decimal, arith}
use Rattle.std.proofs.lemmas.Fmt.{decimal_nonempty}
use Rattle.pit_num.proofs.Written.{some_written}
use Rattle.pit_num.proofs.print.write_whole.Goals as goal

pub returns : goal.returns
returns g c =
    let text : c.as_bytes.result.now ≡ decimal c.args.n = cc in
    some_written _ _ _ _ _ _ c.write_text.result c.write_text.ensures text (decimal_nonempty c.args.n (omega arith))
