use Rattle.std.proofs.Common.{◌∙◌, List, Bool, ap, get_or, false, rules}
use Rattle.pit_model.proofs.KeptProfits.{profits_in-none}
use Rattle.pit_model.proofs.profits.Profits.new.Goals as goal

pub returns : goal.returns
returns g c = profits_in-none c.in_ok-values.values.items c.reserve.new.self c.args.blocks (search rules) (λ b. c.reserve.ensures.same b ∙ ap (λ (l : List Bool). get_or l b false) c.new-set.ensures)
