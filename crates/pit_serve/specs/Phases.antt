-- What contracts see of a planner's session between two requests.
use Rattle.std.specs.Prelude.{Bool, true, false}
use Rattle.pit_share.specs.Planners.{PlannerState, TransactionState}
use Rattle.pit_serve.specs.declared.phase.Phase.{Phase}
use Rattle.pit_serve.specs.declared.phase.Phase.TheVariants as phase

-- a planner between two transactions, or in one
pub data PhaseState : Type 0 where
  Idle : PlannerState → PhaseState
  Open : TransactionState → PhaseState

abbrev pub phase_of : {S R A : Type 0} → Phase S R A → PhaseState
phase_of (phase.Idle planner) = Idle planner
phase_of (phase.Open transaction) = Open transaction

abbrev pub is_open : PhaseState → Bool
is_open (Idle planner) = false
is_open (Open transaction) = true
