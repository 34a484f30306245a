use Rattle.pit_step.proofs.CallerLemmas.{model-stop}
use Rattle.pit_info.proofs.engine.headed.Goals as goal

pub returns-in-Err : goal.returns-in-Err
returns-in-Err g c = model-stop c.args.model.now c.in_ok-given.given c.in_ok-given.ensures
