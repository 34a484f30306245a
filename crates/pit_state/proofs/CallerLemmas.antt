-- For the crates above: what a text of a schedule determines, which of the two it is, where there is no memory for it, and the commits of one history
-- behind another.
pub use Rattle.pit_desk.proofs.Legal.{commits_of-append}
pub use Rattle.pit_state.proofs.OneState.{state_text, view_text, fit-or-unfit}
pub use Rattle.pit_state.proofs.Stops.{state-stop}
pub use Rattle.pit_state.proofs.Viewed.{IsSaid, viewed}
pub use Rattle.pit_state.proofs.States.{history-state, history-unfit, history-bad, solution-state, solution-bad, solution-wants}
