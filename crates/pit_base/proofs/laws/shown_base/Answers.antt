use Rattle.pit_base.proofs.ShownBases.{shown-base, base-shown}
use Rattle.pit_base.proofs.laws.shown_base.Goals as goal

pub returns : goal.returns
returns c = λ at from pit entries rest answer is_resumed count few is. (
  λ base. base-shown c.one_history.ensures.once at pit entries answer few is rest is_resumed from count base,
  λ same. shown-base c.one_history.ensures.once at pit entries answer few is rest is_resumed from count same,
)
