use Rattle.std.proofs.Common.{Bool, List, ◌++◌, All, ap, subst, ◌∙◌}
use Rattle.pit_desk.specs.History.{Answered, commits_of}
use Rattle.pit_desk.specs.State.{State}
use Rattle.pit_step.proofs.CallerLemmas.{keeps_itself}
use Rattle.pit_lines.specs.Ranges.{IsInRange}
use Rattle.pit_lines.specs.Texts.{history_text}
use Rattle.pit_opening.specs.Beginnings.{is_carried_on}
use Rattle.pit_output.specs.Outputs.{new_line}
use Rattle.pit_cli.specs.Output.{report_text}
use Rattle.pit_output.proofs.CallerLemmas.{left_as, left_itself, if_itself, outputs_untouched, was_there, written_as}
use Rattle.pit_cli.proofs.Left.{ran_as, ran_wants, never_ran}
use Rattle.pit_cli.proofs.engine.plan.Goals as goal

pub returns-in-Err-clause-done : goal.returns-in-Err-clause-done
returns-in-Err-clause-done g c =
    never_ran c.args.input c.args.options _ _ _ c.in-Err.fault c.in-Err.ensures
    (keeps_itself (g.W.Sink.contents c.args.out.now), keeps_itself (g.L.Sink.contents c.args.report.now), left_itself g.H.HistoryOut.state c.args.history.now)

pub returns-in_default-clause-done : goal.returns-in_default-clause-done
returns-in_default-clause-done g c =
    ran_wants c.args.input c.args.options _ _ _ (c.in-Ok.ran.closed, c.in-Ok.ran.runs.items) c.in-Ok.ensures
    (λ there. subst (λ (es : List Answered). All IsInRange es) (c.history.ensures.history ∙ ap (λ (d : State). d.history) c.desk.ensures)
    (c.in_default.ensures.range (c.is_some.ensures ∙ was_there _ c.args.history.now c.args.history.now there)))
    (outputs_untouched (is_carried_on c.args.input.beginning) _ _ _ _ _ (keeps_itself (g.W.Sink.contents c.args.out.now)) (keeps_itself (g.L.Sink.contents c.args.report.now))
    (if_itself g.H.HistoryOut.state c.args.history.now _))

pub returns-in_default-reported-clause-done : goal.returns-in_default-reported-clause-done
returns-in_default-reported-clause-done g c =
    ran_wants c.args.input c.args.options _ _ _ (c.in-Ok.ran.closed, c.in-Ok.ran.runs.items) c.in-Ok.ensures
    (λ there. subst (λ (es : List Answered). All IsInRange es) (c.history.ensures.history ∙ ap (λ (d : State). d.history) c.desk.ensures)
    (c.in-Ok-lines_if.ensures.range (c.is_some.ensures ∙ was_there _ c.args.history.now c.args.history.now there)))
    (outputs_untouched (is_carried_on c.args.input.beginning) _ _ _ _ _ (keeps_itself (g.W.Sink.contents c.args.out.now)) (keeps_itself (g.L.Sink.contents c.args.report.now))
    (if_itself g.H.HistoryOut.state c.args.history.now _))

pub returns-clause-done : goal.returns-clause-done
returns-clause-done g c =
    ran_as c.args.input c.args.options _ _ _ (c.in-Ok.ran.closed, c.in-Ok.ran.runs.items) _ c.in-Ok.ensures
    (λ there. subst (λ (es : List Answered). All IsInRange es) (c.history.ensures.history ∙ ap (λ (d : State). d.history) c.desk.ensures)
    (c.in-Ok-lines_if.ensures.range (c.is_some.ensures ∙ was_there _ c.args.history.now c.write_outputs-answer.new.history there)))
    (written_as _ _ _ _ _ _ _ _ _ _ c.is_carried_on-is_first.ensures
    (left_as c.in-Ok.ran.closed c.desk-2.result.now c.plan.result.now c.periods.result.now c.desk-2.ensures c.plan.ensures.plan c.plan.ensures.kept c.periods.ensures.periods c.periods.ensures.count)
    (c.deref.ensures.value ∙ c.in-Ok-reported.ensures.text
    ∙ ap (λ (b : Bool). new_line b ++ report_text c.in-Ok.ran.closed.plan.pit (commits_of c.in-Ok.ran.closed.history) c.in-Ok.ran.runs.items) c.is_new-is_new.ensures)
    (λ there. c.deref-2.ensures.value ∙ c.in-Ok-lines_if.ensures.text (c.is_some.ensures ∙ was_there _ c.args.history.now c.write_outputs-answer.new.history there)
    ∙ ap (λ (es : List Answered). history_text es) (c.history.ensures.history ∙ ap (λ (d : State). d.history) c.desk.ensures))
    c.in-Ok-reported.ensures.ended c.write_outputs-answer.ensures.written)
