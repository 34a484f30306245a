use Rattle.pit_board.proofs.writer.BoardWriter.append.Goals as goal

pub returns-clause-pending : goal.returns-clause-pending
returns-clause-pending g c = rw (← c.self.view_is) c.append.ensures.pending
