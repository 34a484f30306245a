use Rattle.std.proofs.Common.{rules}
use Rattle.pit_desk.specs.History.{commits_of}
use Rattle.pit_board.proofs.BoardRule.{rule-told, rule-learnt}
use Rattle.pit_board.proofs.writer.told_by.Goals as goal

pub tell-note-requires : goal.tell-note-requires
tell-note-requires g c board views h at = rule-told (commits_of g.S.Session.opening) (commits_of board) views _ _ h at

pub learn-requires : goal.learn-requires
learn-requires g c = record {
  own = search rules;
  rule = λ board views h at apart there. rule-learnt (commits_of g.S.Session.opening) (commits_of board) views _ _ _ h apart there;
}
