use Rattle.pit_cli.proofs.Refusals.{one-beginning}
use Rattle.pit_cli.proofs.InTurn.{turns-alike}
use Rattle.pit_cli.proofs.outcome.same_in_turn.Goals as goal

pub returns : goal.returns
returns c =
    turns-alike (one-beginning c.one_beginning.ensures.some c.one_beginning.ensures.same c.one_beginning.ensures.apart c.one_beginning.ensures.faults) c.one_opening.ensures.some
    c.one_opening.ensures.apart c.one_opening.ensures.same
