-- The faults of a run on a desk that is open.
use Rattle.std.specs.Prelude.{ℕ, Bool, List, length}
use Rattle.pit_model.specs.Pit.{Pit}
use Rattle.pit_desk.specs.History.{Answered}
use Rattle.pit_script.specs.Jobs.{Job}
use Rattle.pit_share.specs.Opening.{IsPlannerCount}
use Rattle.pit_step.specs.declared.fault.CliFault.{CliFault}
use Rattle.pit_step.specs.declared.fault.CliFault.TheVariants.{PlannerCount, NoMemory, NoPlace, NotClosed}
use Rattle.pit_cli.specs.Planning.{IsNotClosed}

-- the number of planners is looked at first; then memory may run out, a place can't be had, or a workspace isn't closed
abbrev pub IsFaultOn : Bool → Pit → List Answered → ℕ → ℕ → List (List Job) → CliFault → Type 0
IsFaultOn is_in_turn pit opening max_entries retries scripts PlannerCount = IsPlannerCount (length scripts) → ⊥
IsFaultOn is_in_turn pit opening max_entries retries scripts NoMemory = IsPlannerCount (length scripts)
IsFaultOn is_in_turn pit opening max_entries retries scripts NoPlace = IsPlannerCount (length scripts)
IsFaultOn is_in_turn pit opening max_entries retries scripts NotClosed = IsPlannerCount (length scripts) × IsNotClosed is_in_turn pit opening max_entries retries scripts
IsFaultOn is_in_turn pit opening max_entries retries scripts other = ⊥
