-- The lemmas that other crates cite.
pub use Rattle.pit_file.proofs.Outputs.{kept-apart, kept-shown}
