use Rattle.pit_live.proofs.host.sit_down.Goals as goal

pub returns-then-load-from : goal.returns-then-load-from
returns-then-load-from g c = c.unseated.ensures c.args.seat c.sit-planner.ensures

pub returns : goal.returns
returns g c = c.serve.ensures c.args.seat c.sit-planner.ensures
