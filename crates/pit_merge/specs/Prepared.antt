-- What a merge begins with.
use Rattle.std.specs.Prelude.{◌≡◌, Bool, Option}
use Rattle.pit_model.specs.Pit.{Pit}
use Rattle.pit_step.specs.declared.fault.CliFault.{CliFault}
use Rattle.pit_step.specs.Steps.{Step, in_turn, beside, judge_step}
use Rattle.pit_step.specs.Devices.{Reading}
use Rattle.pit_step.specs.Inputs.{ordered_pit_step}
use Rattle.pit_opening.specs.Beginnings.{Begun, is_carried_on, is_unbegun, begin_step, IsOpeningOf, IsOpeningFault}
use Rattle.pit_opening.specs.Openings.{Opened}

-- a pit, what a desk on it is opened with, whether that is a history that is carried on, and whether this one isn't there yet
pub record Prepared : Type 0 where
  pub pit : Pit
  pub opening : Opened
  pub is_carried_on : Bool
  pub is_new : Bool

pub record IsPrepared (pit : Pit) (begun : Begun) (prepared : Prepared) : Type 0 where
  pub same_pit : prepared.pit ≡ pit
  pub opening : IsOpeningOf pit begun prepared.opening
  pub carried : prepared.is_carried_on ≡ is_carried_on begun
  pub new : prepared.is_new ≡ is_unbegun begun

-- the text of what is begun with is read, and stands for an opening
abbrev pub opening_step : Bool → Option Reading → Step CliFault Pit Prepared
opening_step carries start = in_turn (beside (begin_step carries start)) (judge_step (λ given. IsPrepared given.0 given.1) (λ given. IsOpeningFault given.0 given.1))

-- model, precedences and what is begun with are read and parsed, one after another
abbrev pub prepare_run : Bool → Reading → Reading → Option Reading → Step CliFault (Unit {0}) Prepared
prepare_run carries model precedence start = in_turn (ordered_pit_step model precedence) (opening_step carries start)
