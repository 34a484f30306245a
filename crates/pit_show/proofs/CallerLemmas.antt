-- For the crates above: what they cite of fronts of entries that have so many commits.
pub use Rattle.pit_show.proofs.OneFront.{one-front}
pub use Rattle.pit_show.proofs.Fronts.{front-commits}
pub use Rattle.pit_show.proofs.Schedules.{front-fits}
