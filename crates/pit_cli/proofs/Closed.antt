-- What was written of a run is that of one history.
use Rattle.std.proofs.Common.{◌≡◌, List, Option, Result, Ok, Err, sym, subst}
use Rattle.pit_model.specs.Pit.{Pit}
use Rattle.pit_desk.specs.History.{Answered}
use Rattle.pit_desk.specs.declared.entry.TheConstants.{ENTRIES_MAX}
use Rattle.pit_opening.specs.Openings.{entries_before, IsGoodOpening}
use Rattle.pit_run.specs.Reports.{IsReport}
use Rattle.pit_run.specs.Turns.{HadTurns}
use Rattle.pit_run.proofs.CallerLemmas.{each-planner, of-one-thread, one-by-one}
use Rattle.pit_step.specs.Devices.{Writing}
use Rattle.pit_step.specs.declared.status.Status.{Status}
use Rattle.pit_step.specs.declared.fault.CliFault.{CliFault}
use Rattle.pit_step.specs.declared.fault.CliFault.TheVariants as cli
use Rattle.pit_cli.specs.Outcomes.{IsWritten, IsOneHistory, IsOfOneHistory}
use Rattle.pit_output.specs.Outputs.{Keeping}
use Rattle.pit_cli.specs.Output.{plan_run}
use Rattle.pit_cli.specs.Planning.{Ran, IsRan, plan_judged}
use Rattle.pit_cli.specs.Texts.{Texts, Setup, pit_in, opening_in, scripts_in, texts_judged}
use Rattle.pit_cli.specs.declared.plan_options.PlanOptions.{PlanOptions}
use Rattle.pit_cli.proofs.OneOutcome.{given_written, stopped_written}

-- what the judgements give stands for the texts, and has a good start
judged_stands : (texts : Texts) (setup : Setup) → (plan_judged texts).Gives tt setup → (texts_judged texts).Gives tt setup × IsGoodOpening (pit_in setup) (opening_in setup)
judged_stands texts setup (first, stands, (next, good, count)) =
    let stood : (texts_judged texts).Gives tt next = subst (λ (s : Setup). (texts_judged texts).Gives tt s) (sym good.0) stands in
    let begun : IsGoodOpening (pit_in next) (opening_in next) = subst (λ (s : Setup). IsGoodOpening (pit_in s) (opening_in s)) (sym good.0) good.1 in (
      subst (λ (s : Setup). (texts_judged texts).Gives tt s) (sym count.0) stood,
      subst (λ (s : Setup). IsGoodOpening (pit_in s) (opening_in s)) (sym count.0) begun,
    )

one-history : (texts : Texts) (options : PlanOptions) (setup : Setup) (ran : Ran) → (plan_judged texts).Gives tt setup → IsRan setup options ran → IsOneHistory texts options ran.0 ran.1
one-history texts options setup ran judged run =
    let pit : Pit = ran.0.plan.pit in
    let opening = opening_in setup in
    let scripts = scripts_in setup in
    let before : List Answered = entries_before opening in
    let same : pit_in setup ≡ pit = sym run.report.closed.goes_on.same_pit in
    let report : IsReport pit before ENTRIES_MAX options.retries scripts ran.0 ran.1 = subst (λ (p : Pit). IsReport p before ENTRIES_MAX options.retries scripts ran.0 ran.1) same run.report in
    let stands = judged_stands texts setup judged in
    record {
      opening = opening;
      scripts = scripts;
      stand = subst (λ (p : Pit). (texts_judged texts).Gives tt ((p, opening), scripts)) same stands.0;
      good_opening = subst (λ (p : Pit). IsGoodOpening p opening) same stands.1;
      goes_on = report.closed.goes_on;
      one_thread = of-one-thread pit before ENTRIES_MAX options.retries scripts ran.0 ran.1 report;
      one_by_one = one-by-one pit before ENTRIES_MAX options.retries scripts ran.0 ran.1 report;
      turns = run.turns;
      had_turns = λ asked. subst (λ (p : Pit). HadTurns p ENTRIES_MAX options.retries before ran.0.history scripts ran.1) same (run.had_turns asked);
      each = each-planner pit before ENTRIES_MAX options.retries scripts ran.0 ran.1 report;
    }

written-one : (texts : Texts) (options : PlanOptions) (out lines : Writing) (kept : Option Keeping) (result : Result Status CliFault) → IsWritten texts options out lines kept result
    → IsOfOneHistory texts options out lines kept result
written-one texts options out lines kept result is = record { written = is; one_history = one-history texts options is.setup is.ran is.judged is.run }

pub answered-one : (texts : Texts) (options : PlanOptions) (out lines : Writing) (kept : Option Keeping) (status : Status) → (plan_run texts options out lines kept).Gives tt status
    → IsOfOneHistory texts options out lines kept (Ok status)
answered-one texts options out lines kept status p = written-one texts options out lines kept (Ok status) (given_written out lines kept texts options status p)

pub stopped-one : (texts : Texts) (options : PlanOptions) (out lines : Writing) (kept : Option Keeping) → (plan_run texts options out lines kept).Fails tt cli.Stopped
    → IsOfOneHistory texts options out lines kept (Err cli.Stopped)
stopped-one texts options out lines kept p = written-one texts options out lines kept (Err cli.Stopped) (stopped_written out lines kept texts options p)
