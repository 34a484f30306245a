use Rattle.pit_cli.proofs.ShownRun.{written-shown}
use Rattle.pit_cli.proofs.laws.one_solution.Goals as goal

pub returns : goal.returns
returns c = λ texts options out lines kept result pit one there model.
    written-shown c.one_front.ensures.some c.one_front.ensures.once c.shown_history.ensures.is c.shown_history.ensures.shown texts options out lines kept result pit one there model
