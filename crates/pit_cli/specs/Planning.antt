-- What a run of scripts comes to, and its faults.
use Rattle.std.specs.Prelude.{◌≡◌, ℕ, Bool, true, false, List, length, ⊤}
use Rattle.pit_model.specs.Pit.{Pit}
use Rattle.pit_desk.specs.History.{Answered}
use Rattle.pit_desk.specs.State.{State}
use Rattle.pit_desk.specs.declared.entry.TheConstants.{ENTRIES_MAX}
use Rattle.pit_step.specs.declared.fault.CliFault.{CliFault}
use Rattle.pit_step.specs.declared.fault.CliFault.TheVariants.{PlannerCount, NoMemory, NoPlace, NotClosed}
use Rattle.pit_step.specs.Steps.{Step, in_turn, judge_step, pass_step}
use Rattle.pit_opening.specs.Openings.{entries_before, IsGoodOpening, IsDeskFault}
use Rattle.pit_share.specs.Opening.{IsPlannerCount}
use Rattle.pit_share.specs.Planners.{PlannerState}
use Rattle.pit_share.specs.declared.error.CloseError.{CloseError}
use Rattle.pit_script.specs.Jobs.{Job}
use Rattle.pit_run.specs.Reports.{RunState, IsReport, IsUnclosed}
use Rattle.pit_run.specs.Turns.{IsInTurn, HadTurns, IsTurnUnclosed}
use Rattle.pit_cli.specs.Texts.{Texts, Setup, pit_in, opening_in, scripts_in, texts_judged}
use Rattle.pit_cli.specs.declared.plan_options.PlanOptions.{PlanOptions}

-- ---- before the run

-- each limit can be met, and a desk opens with a schedule that breaks no rule, or with a legal history; or what is wrong with them, or memory runs
-- out
abbrev pub desk_judged : Step CliFault Setup Setup
desk_judged = pass_step (λ setup. IsGoodOpening (pit_in setup) (opening_in setup)) (λ setup. IsDeskFault (pit_in setup) (opening_in setup))

-- there are as many scripts as there may be planners
abbrev pub count_judged : Step CliFault Setup Setup
count_judged =
    pass_step (λ setup. IsPlannerCount (length (scripts_in setup))) (λ setup fault. (fault ≡ PlannerCount) × (IsPlannerCount (length (scripts_in setup)) → ⊥))

-- all that the texts decide
abbrev pub plan_judged : Texts → Step CliFault (Unit {0}) Setup
plan_judged texts = in_turn (texts_judged texts) (in_turn desk_judged count_judged)

-- ---- the run

-- the closed desk, and each planner's run
abbrev pub Ran : Type 0
Ran = State × List RunState

-- the logs of planners who have ended don't close the workspace; of planners in turn, that of one turn
abbrev pub IsNotClosed : Bool → Pit → List Answered → ℕ → ℕ → List (List Job) → Type 0
IsNotClosed true pit opening max_entries retries scripts = (planner : ℕ) × (cause : CloseError) × IsTurnUnclosed pit opening max_entries retries scripts planner cause
IsNotClosed false pit opening max_entries retries scripts = (logs : List PlannerState) × (cause : CloseError) × IsUnclosed pit opening max_entries retries scripts logs cause

-- memory runs out, a place can't be had, or a workspace isn't closed
abbrev pub IsRunFault : Setup → PlanOptions → CliFault → Type 0
IsRunFault setup options NoMemory = ⊤
IsRunFault setup options NoPlace = ⊤
IsRunFault setup options NotClosed = IsNotClosed options.is_in_turn (pit_in setup) (entries_before (opening_in setup)) ENTRIES_MAX options.retries (scripts_in setup)
IsRunFault setup options other = ⊥

-- planners did their scripts after this history; where that is asked for in turn, each behind all that the one before left
pub record AreDone (is_in_turn : Bool) (pit : Pit) (opening : List Answered) (max_entries retries : ℕ) (scripts : List (List Job)) (ran : Ran) : Type 0 where
  pub report : IsReport pit opening max_entries retries scripts ran.0 ran.1
  pub turns : is_in_turn ≡ true → IsInTurn (length scripts) opening ran.0.history
  pub had_turns : is_in_turn ≡ true → HadTurns pit max_entries retries opening ran.0.history scripts ran.1

-- after the history that the desk was opened with, on a desk that may have as many entries as a history can
abbrev pub IsRan : Setup → PlanOptions → Ran → Type 0
IsRan setup options ran = AreDone options.is_in_turn (pit_in setup) (entries_before (opening_in setup)) ENTRIES_MAX options.retries (scripts_in setup) ran

abbrev pub planners_step : PlanOptions → Step CliFault Setup Ran
planners_step options = judge_step (λ setup. IsRan setup options) (λ setup. IsRunFault setup options)
