use Rattle.pit_show.proofs.Mined.{left_as}
use Rattle.pit_show.proofs.left.left_text.Goals as goal

pub returns : goal.returns
returns g c = λ commits stands.
    left_as c.args.plan.now c.periods.result.now c.args.comment.now _ commits c.periods.ensures.periods c.periods.ensures.count stands c.in_ok-mined.ensures
