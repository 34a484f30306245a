-- What a live workspace is opened with.
use Rattle.std.specs.Prelude.{◌≡◌, ◌⊎◌, ℕ, Bool, true, Option}
use Rattle.pit_model.specs.Pit.{Pit}
use Rattle.pit_step.specs.declared.fault.CliFault.{CliFault}
use Rattle.pit_step.specs.declared.fault.CliFault.TheVariants.{NoMemory}
use Rattle.pit_step.specs.Steps.{Step, in_turn, beside, judge_step}
use Rattle.pit_step.specs.Devices.{Reading}
use Rattle.pit_step.specs.Inputs.{placed_pit_step}
use Rattle.pit_opening.specs.Beginnings.{Begun, is_unbegun, begin_step, IsMendedFrom, IsOpeningOf, IsOpeningFault}
use Rattle.pit_opening.specs.Openings.{Opened}

-- a pit, the history that is carried on, how many bytes of its text are left out, and whether it isn't there yet
pub record LiveStart : Type 0 where
  pub pit : Pit
  pub opening : Opened
  pub cut : ℕ
  pub is_new : Bool

-- the history stands for it, once its torn end is left out
pub record IsLiveStart (pit : Pit) (begun : Begun) (start : LiveStart) : Type 0 where
  pub same_pit : start.pit ≡ pit
  pub mended : Begun
  pub mends : IsMendedFrom begun mended start.cut
  pub opening : IsOpeningOf pit mended start.opening
  pub new : start.is_new ≡ is_unbegun begun

-- it has a fault without its torn end
pub record IsUnmended (pit : Pit) (begun : Begun) (fault : CliFault) : Type 0 where
  pub mended : Begun
  pub cut : ℕ
  pub mends : IsMendedFrom begun mended cut
  pub fails : IsOpeningFault pit mended fault

-- or memory runs out at its last line
abbrev pub IsNoLiveStart : Pit → Begun → CliFault → Type 0
IsNoLiveStart pit begun fault = IsUnmended pit begun fault ⊎ (fault ≡ NoMemory)

-- the text of the history, where there is a source for it, is read, and stands for what is opened
abbrev pub live_start_step : Option Reading → Step CliFault Pit LiveStart
live_start_step history = in_turn (beside (begin_step true history)) (judge_step (λ given. IsLiveStart given.0 given.1) (λ given. IsNoLiveStart given.0 given.1))

-- model, precedences, places and history are read and parsed, one after another
abbrev pub prepare_run : Reading → Reading → Option Reading → Option Reading → Step CliFault (Unit {0}) LiveStart
prepare_run model precedence blocks history = in_turn (placed_pit_step model precedence blocks) (live_start_step history)
