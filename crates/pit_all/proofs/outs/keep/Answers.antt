use Rattle.std.proofs.Common.{◌∙◌, arith}
use Rattle.pit_all.specs.declared.outs.TheConstants.{PAIRS_SHOWN}
use Rattle.pit_all.proofs.Counted.{kept-full, kept-more}
use Rattle.pit_all.proofs.outs.keep.Goals as goal

pub returns-then-len-ge-PAIRS_SHOWN : goal.returns-then-len-ge-PAIRS_SHOWN
returns-then-len-ge-PAIRS_SHOWN g c = λ pairs is.
    kept-full PAIRS_SHOWN c.args.first.now.items pairs c.args.pair (omega (arith, c.len.ensures, c.if-len-ge-PAIRS_SHOWN.true)) is

pub returns : goal.returns
returns g c = λ pairs is.
    c.in_ok-push.ensures.items ∙ kept-more PAIRS_SHOWN c.args.first.now.items pairs c.args.pair (omega (arith, c.len.ensures, c.if-len-ge-PAIRS_SHOWN.false)) is
