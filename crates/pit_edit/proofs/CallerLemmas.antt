-- Lemmas for the crates above.
pub use Rattle.pit_edit.proofs.LaidOver.{laid-over}
