-- For the crates above: whose log a session hands in.
pub use Rattle.pit_serve.proofs.Entering.{session_number}
