use Rattle.pit_num.proofs.Eight.{eight_is}
use Rattle.pit_num.proofs.parse.eight.value_of_eight.Goals as goal

pub returns : goal.returns
returns c ds long digits e = eight_is ds c.args.word long digits e
