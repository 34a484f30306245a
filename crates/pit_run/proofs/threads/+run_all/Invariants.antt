use Rattle.std.proofs.Common.{vec_len}
use Rattle.pit_run.proofs.threads.+run_all.Given as goal

abbrev pub decreases-run_all : goal.decreases-run_all
decreases-run_all g l = vec_len l.seats.now
