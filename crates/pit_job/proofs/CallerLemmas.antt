-- For the crates above: that each entry of a planner has the effect of its own job, what a committed entry made of the schedule before it, runs of
-- planners who had seen less before, or see more then, the commit that an outcome Moved names, and a full history.
pub use Rattle.pit_job.proofs.Once.{own-effects, ends-full}
pub use Rattle.pit_job.proofs.Agreeing.{committed-effect}
pub use Rattle.pit_job.proofs.Growing.{all-from, all-on}
pub use Rattle.pit_job.proofs.Writers.{outcome-writer}
