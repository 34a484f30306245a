use Rattle.std.proofs.Common.{refl}
use Rattle.pit_desk.specs.History.{commits_of}
use Rattle.pit_board.proofs.CallerLemmas.{prefix-refl}
use Rattle.pit_board.proofs.BoardRule.{rule-sees}
use Rattle.pit_board.proofs.reader.BoardReader.look.Goals as goal

pub enter_as-requires : goal.enter_as-requires
enter_as-requires g c board views h at = (
  commits_of board,
  rule-sees (commits_of g.S.Session.opening) (commits_of board) (commits_of board) views _ h (prefix-refl (commits_of board)),
  (h.each _ _ at, refl),
)
