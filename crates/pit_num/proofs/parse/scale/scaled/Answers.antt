use Rattle.std.proofs.Common.{arith, ◌∙◌, sym, ap}
use Rattle.pit_num.specs.Inside.Decimal.{below_limit}
use Rattle.pit_num.proofs.Nearest.{scaled_up, scaled_down}
use Rattle.pit_num.proofs.parse.scale.scaled.Goals as goal

pub returns-then-lowers-raises : goal.returns-then-lowers-raises
returns-then-lowers-raises c = c.raised.ensures ∙ ap (λ n. below_limit n) (sym (scaled_up c.args.n c.args.raises c.args.lowers c.if-lowers-raises.true))

pub returns-else-lowers-raises : goal.returns-else-lowers-raises
returns-else-lowers-raises c = c.lowered.ensures ∙ ap (λ n. below_limit n) (sym (scaled_down c.args.n c.args.raises c.args.lowers (omega arith)))
