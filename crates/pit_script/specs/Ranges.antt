-- Jobs whose steps are in the ranges of a pit.
use Rattle.std.specs.Prelude.{◌<◌, List, IfSome, ⊤}
use Rattle.std.specs.List.{All}
use Rattle.pit_model.specs.Pit.{Pit}
use Rattle.pit_script.specs.Jobs.{Job}
use Rattle.pit_script.specs.declared.fact.ScriptFact.{ScriptFact}
use Rattle.pit_script.specs.declared.fact.ScriptFact.TheVariants.{Begin, Does, Ends}
use Rattle.pit_script.specs.declared.step.Step.{Step}
use Rattle.pit_script.specs.declared.step.Step.TheVariants.{Read, Put, Clear, Shift, Bench, Expect, Carry, Revise}

abbrev pub IsStepIn : Pit → Step → Type 0
IsStepIn pit (Read block) = block < pit.blocks
IsStepIn pit (Put block period) = (block < pit.blocks) × (period < pit.periods)
IsStepIn pit (Clear block) = block < pit.blocks
IsStepIn pit (Shift block is_back by) = block < pit.blocks
IsStepIn pit (Bench height period) = period < pit.periods
IsStepIn pit (Expect block period) = (block < pit.blocks) × IfSome period (λ t. t < pit.periods)
IsStepIn pit (Carry way block period) = (block < pit.blocks) × (period < pit.periods)
IsStepIn pit (Revise resource period upper) = (resource < pit.resources) × (period < pit.periods)

-- what a line says
abbrev pub IsFactIn : Pit → ScriptFact → Type 0
IsFactIn pit Begin = ⊤
IsFactIn pit (Does step) = IsStepIn pit step
IsFactIn pit (Ends end) = ⊤

abbrev pub IsJobIn : Pit → Job → Type 0
IsJobIn pit job = All (IsStepIn pit) job.steps

abbrev pub AreJobsIn : Pit → List Job → Type 0
AreJobsIn pit jobs = All (IsJobIn pit) jobs
