use Rattle.pit_desk.specs.History.{commits_of}
use Rattle.pit_board.proofs.BoardRule.{rule-place}
use Rattle.pit_board.proofs.writer.BoardWriter.reader.Goals as goal

pub reader-requires : goal.reader-requires
reader-requires g c board views h = rule-place (commits_of g.S.Session.opening) (commits_of board) views h
