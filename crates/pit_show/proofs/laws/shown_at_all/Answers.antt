use Rattle.pit_show.proofs.Outcome.{shown_all, all_shown}
use Rattle.pit_show.proofs.laws.shown_at_all.Goals as goal

pub returns : goal.returns
returns c = λ pit text answer commits stands. (
  shown_all c.one_history.ensures.once c.one_result.ensures.either c.one_result.ensures.once pit text answer commits stands,
  all_shown c.one_history.ensures.once c.one_result.ensures.either c.one_result.ensures.once pit text answer commits stands,
)
