-- The same texts end alike, where planners take turns.
use Rattle.std.proofs.Common.{◌≡◌, ℕ, Bool, true, List, ◌++◌, ◌≤◌, length, Option, Result, sym, ap, subst, ◌∙◌}
use Rattle.pit_model.specs.Pit.{Pit}
use Rattle.pit_plan.specs.Schedule.{Commit, held_period, value_of}
use Rattle.pit_plan.specs.Shortfalls.{shortfalls_of}
use Rattle.pit_desk.specs.History.{commits_of}
use Rattle.pit_desk.specs.declared.entry.TheConstants.{ENTRIES_MAX}
use Rattle.pit_run.specs.Laws.{TookTurns}
use Rattle.pit_run.specs.Reports.{RunState}
use Rattle.pit_run.proofs.CallerLemmas.{of-one-thread, runs-same, commits-same}
use Rattle.pit_step.specs.Devices.{Writing}
use Rattle.pit_step.specs.LineTexts.{left_text}
use Rattle.pit_step.specs.declared.status.Status.{Status}
use Rattle.pit_step.specs.declared.fault.CliFault.{CliFault}
use Rattle.pit_opening.specs.Beginnings.{is_unbegun}
use Rattle.pit_opening.specs.Openings.{entries_before}
use Rattle.pit_output.specs.Outputs.{Keeping, new_line}
use Rattle.pit_cli.specs.Texts.{Texts, Setup, pit_in, opening_in, scripts_in}
use Rattle.pit_cli.specs.Planning.{Ran, IsRan}
use Rattle.pit_cli.specs.Output.{ended_of, report_text}
use Rattle.pit_cli.specs.Outcomes.{AreTurnsWritten, AreWrittenAlike}
use Rattle.pit_cli.specs.declared.plan_options.PlanOptions.{PlanOptions}
use Rattle.pit_cli.proofs.DecidedTexts.{IsOneBeginning}
use Rattle.pit_cli.proofs.Refusals.{IsSomeOpening, IsOpeningApart, IsOneOpening, plan_decided}

-- planners took turns on what the texts stand for
took : (setup : Setup) (options : PlanOptions) (ran : Ran) → IsRan setup options ran → options.is_in_turn ≡ true
    → TookTurns (pit_in setup) (entries_before (opening_in setup)) ENTRIES_MAX options.retries (scripts_in setup) ran.0.history ran.1
    (value_of (pit_in setup) (held_period (commits_of ran.0.history)))
took setup options ran run in_turn = record {
  one_thread = of-one-thread (pit_in setup) (entries_before (opening_in setup)) ENTRIES_MAX options.retries (scripts_in setup) ran.0 ran.1 run.report;
  few = subst (λ (n : ℕ). length ran.0.history ≤ n) run.report.closed.goes_on.limit run.report.closed.kept.few;
  snapshots = run.report.closed.goes_on.snapshots;
  in_turn = run.turns in_turn;
  had_turns = run.had_turns in_turn;
}

-- what is written of the same runs and commits is the same
written-alike : (is_new is_strict : Bool) (ran other : Ran) → ran.0.plan.pit ≡ other.0.plan.pit → commits_of ran.0.history ≡ commits_of other.0.history → ran.1 ≡ other.1
    → AreWrittenAlike is_new ran other (ended_of is_strict ran.1 (shortfalls_of ran.0.plan.pit (held_period (commits_of ran.0.history))))
    (ended_of is_strict other.1 (shortfalls_of other.0.plan.pit (held_period (commits_of other.0.history))))
written-alike is_new is_strict ran other pit commits runs = record {
  solution = ap (λ (p : Pit). left_text p (commits_of ran.0.history)) pit ∙ ap (left_text other.0.plan.pit) commits;
  report = ap (λ (p : Pit). new_line is_new ++ report_text p (commits_of ran.0.history) ran.1) pit
      ∙ (ap (λ (cs : List Commit). new_line is_new ++ report_text other.0.plan.pit cs ran.1) commits ∙ ap (λ (rs : List RunState). new_line is_new ++ report_text other.0.plan.pit (commits_of other.0.history) rs) runs);
  ended = ap (λ (p : Pit). ended_of is_strict ran.1 (shortfalls_of p (held_period (commits_of ran.0.history)))) pit
      ∙ (ap (λ (cs : List Commit). ended_of is_strict ran.1 (shortfalls_of other.0.plan.pit (held_period cs))) commits
      ∙ ap (λ (rs : List RunState). ended_of is_strict rs (shortfalls_of other.0.plan.pit (held_period (commits_of other.0.history)))) runs);
}

module _ (beginnings : IsOneBeginning) (some_opening : IsSomeOpening) (opening_apart : IsOpeningApart) (one_opening : IsOneOpening) where
  pub turns-alike : (texts : Texts) (options again : PlanOptions) (out lines other_out other_lines : Writing) (kept other_kept : Option Keeping) (result other : Result Status CliFault)
      → again.retries ≡ options.retries → again.is_strict ≡ options.is_strict → (one : AreTurnsWritten texts options out lines kept result)
      → (two : AreTurnsWritten texts again other_out other_lines other_kept other) → AreWrittenAlike (is_unbegun texts.beginning) one.written.ran two.written.ran result other
  turns-alike texts options again out lines other_out other_lines kept other_kept result other retries strict one two =
      let is_new = is_unbegun texts.beginning in
      let a = one.written in
      let b = two.written in
      let setup : Setup = a.setup in
      let pit = pit_in setup in
      let opening = entries_before (opening_in setup) in
      let scripts = scripts_in setup in
      let same : b.setup ≡ a.setup = (plan_decided beginnings some_opening opening_apart one_opening texts).once.values b.setup a.setup b.judged a.judged in
      let second : IsRan setup again b.ran = subst (λ (s : Setup). IsRan s again b.ran) same b.run in
      let value = value_of pit (held_period (commits_of a.ran.0.history)) in
      let worth = value_of pit (held_period (commits_of b.ran.0.history)) in
      let first_took = took setup options a.ran a.run one.in_turn in
      let second_took = subst (λ (n : ℕ). TookTurns pit opening ENTRIES_MAX n scripts b.ran.0.history b.ran.1 worth) retries (took setup again b.ran second two.in_turn) in
      let runs = runs-same pit opening ENTRIES_MAX options.retries scripts a.ran.0.history b.ran.0.history a.ran.1 b.ran.1 value worth first_took second_took one.served two.served in
      let commits = commits-same pit opening ENTRIES_MAX options.retries scripts a.ran.0.history b.ran.0.history a.ran.1 b.ran.1 value worth first_took second_took one.served two.served in
      let like = written-alike is_new options.is_strict a.ran b.ran (a.run.report.closed.goes_on.same_pit ∙ sym second.report.closed.goes_on.same_pit) commits runs in
      record {
        solution = like.solution;
        report = like.report;
        ended = a.ended
            ∙ (like.ended ∙ (ap (λ (s : Bool). ended_of s b.ran.1 (shortfalls_of b.ran.0.plan.pit (held_period (commits_of b.ran.0.history)))) (sym strict) ∙ sym b.ended));
      }
