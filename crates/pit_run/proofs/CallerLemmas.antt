-- For the crates above: what a report comes to, and that the same scripts in turn end alike.
pub use Rattle.pit_run.proofs.Closing.{each-planner, of-one-thread, one-by-one}
pub use Rattle.pit_run.proofs.SameEnds.{runs-same, commits-same}
