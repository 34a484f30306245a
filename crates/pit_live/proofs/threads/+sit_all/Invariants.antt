use Rattle.std.proofs.Common.{vec_len}
use Rattle.pit_live.proofs.threads.+sit_all.Given as goal

abbrev pub decreases-sit_all : goal.decreases-sit_all
decreases-sit_all g l = vec_len l.seats.now
