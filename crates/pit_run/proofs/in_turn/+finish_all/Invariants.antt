use Rattle.std.proofs.Common.{vec_len}
use Rattle.pit_run.proofs.in_turn.+finish_all.Given as goal

abbrev pub decreases-finish_all : goal.decreases-finish_all
decreases-finish_all g l = vec_len l.seats.now
