-- For the crates above: what they cite of plans.
pub use Rattle.pit_plan.proofs.Commits.{held_period-nil, held_period-push, last_number-push, limit_of-nil, limit_of-push}
pub use Rattle.pit_plan.proofs.Snapshots.{one_snapshot, held_in_range}
pub use Rattle.pit_plan.proofs.Sums.{total-same, total-nothing}
pub use Rattle.pit_plan.proofs.Same.{same-breach, same-limits}
pub use Rattle.pit_plan.proofs.Shorts.{flat_map-pushed, flat_map-none}
pub use Rattle.pit_plan.proofs.Preds.{pred-known, first_late-least, none-late}
pub use Rattle.pit_plan.proofs.Good.{ordered-from_none, within-from_none, limit-over}
pub use Rattle.pit_plan.proofs.OneBreach.{one_first}
pub use Rattle.pit_plan.proofs.SomeBreach.{some_first}
