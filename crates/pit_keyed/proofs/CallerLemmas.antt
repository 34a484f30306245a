-- For the crates above: that a key that isn't there goes last.
pub use Rattle.pit_keyed.proofs.Absent.{insert_entry-absent}
