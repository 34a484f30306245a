-- What the end of the sessions is put together of.
use Rattle.std.specs.Prelude.{◌≡◌, ℕ, Bool, true, false, ◌&&◌, List, Option, Some, None, Result, ⊤}
use Rattle.pit_plan.specs.Schedule.{held_period}
use Rattle.pit_plan.specs.Shortfalls.{shortfalls_of}
use Rattle.pit_desk.specs.History.{Answered, commits_of}
use Rattle.pit_step.specs.declared.fault.CliFault.{CliFault}
use Rattle.pit_step.specs.declared.status.Status.{Status}
use Rattle.pit_step.specs.Devices.{Writing}
use Rattle.pit_live.specs.Live.{Lived, IsTold}
use Rattle.pit_live.specs.Sittings.{live_report, live_end}

-- what is known is the history
abbrev pub KnowsAll : Option (List Answered) → List Answered → Type 0
KnowsAll None history = ⊥
KnowsAll (Some known) history = known ≡ history

-- a text is told, where what came before it was
abbrev pub IsToldMore : Bool → Writing → List ℕ → Bool → Type 0
IsToldMore true lines text is_told = IsTold lines text is_told
IsToldMore false lines text true = ⊥
IsToldMore false lines text false = ⊤

-- how the sessions ended is told, and so it ends
pub record IsReported (lived : Lived) (was_told : Bool) (lines : Writing) (result : Result Status CliFault) : Type 0 where
  pub is_told : Bool
  pub told : IsToldMore was_told lines (live_report lived.desk.plan.pit (commits_of lived.desk.history) lived.sittings) is_told
  pub ended : result ≡ live_end (lived.is_filed && is_told) lived.sittings (shortfalls_of lived.desk.plan.pit (held_period (commits_of lived.desk.history)))
