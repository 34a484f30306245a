use Rattle.std.proofs.Common.{◌≡◌, Bool, List, ◌++◌, Ok, ap, subst, ◌∙◌}
use Rattle.pit_desk.specs.History.{Answered, commits_of}
use Rattle.pit_desk.specs.State.{State, IsDeskKept}
use Rattle.pit_step.proofs.CallerLemmas.{keeps_itself}
use Rattle.pit_lines.specs.Texts.{history_text}
use Rattle.pit_edit.specs.Merging.{Merging}
use Rattle.pit_output.specs.Outputs.{new_line}
use Rattle.pit_output.proofs.CallerLemmas.{left_as, left_itself, if_itself, outputs_untouched, was_there, written_as}
use Rattle.pit_step.specs.declared.status.Status.{Status}
use Rattle.pit_merge.specs.Prepared.{Prepared}
use Rattle.pit_merge.specs.Edits.{Merged}
use Rattle.pit_merge.specs.Merge.{merge_report, merge_status}
use Rattle.pit_merge.proofs.Runs.{merged_as, merged_wants, never_merged}
use Rattle.pit_merge.proofs.engine.merge.Goals as goal

pub returns-in-Err-clause-done : goal.returns-in-Err-clause-done
returns-in-Err-clause-done g c =
    never_merged c.args.options c.args.input _ _ _ _ c.in-Err.fault c.in-Err.ensures.taken
    (keeps_itself (g.W.Sink.contents c.args.out.now), keeps_itself (g.L.Sink.contents c.args.report.now), left_itself g.H.HistoryOut.state c.args.history.now)

pub returns-in_default-clause-done : goal.returns-in_default-clause-done
returns-in_default-clause-done g c =
    merged_wants c.args.options c.args.input _ _ _ _ c.in-Ok.merged
    (subst (λ (d : State). IsDeskKept d) (c.desk.ensures ∙ ap (λ (m : Merging). m.desk) c.merging-merging.ensures) c.history.ensures.kept) c.in-Ok.ensures.taken
    (outputs_untouched c.args.input.is_carried_on _ _ _ _ _ (keeps_itself (g.W.Sink.contents c.args.out.now)) (keeps_itself (g.L.Sink.contents c.args.report.now))
    (if_itself g.H.HistoryOut.state c.args.history.now _))

pub returns-in_default-reported-clause-done : goal.returns-in_default-reported-clause-done
returns-in_default-reported-clause-done g c =
    merged_wants c.args.options c.args.input _ _ _ _ c.in-Ok.merged
    (subst (λ (d : State). IsDeskKept d) (c.desk.ensures ∙ ap (λ (m : Merging). m.desk) c.merging-merging.ensures) c.history.ensures.kept) c.in-Ok.ensures.taken
    (outputs_untouched c.args.input.is_carried_on _ _ _ _ _ (keeps_itself (g.W.Sink.contents c.args.out.now)) (keeps_itself (g.L.Sink.contents c.args.report.now))
    (if_itself g.H.HistoryOut.state c.args.history.now _))

pub returns-clause-done : goal.returns-clause-done
returns-clause-done g c =
    let merged : Merged = c.in-Ok.merged in
    let is = c.merging-merging.ensures in
    let desk_is : c.desk.result.now ≡ merged.merging.desk = c.desk.ensures ∙ ap (λ (m : Merging). m.desk) is in
    merged_as c.args.options c.args.input _ _ _ _ merged (subst (λ (d : State). IsDeskKept d) desk_is c.history.ensures.kept) c.in-Ok.ensures.taken _
    (written_as _ _ _ _ _ _ _ _ _ _ (ap (λ (p : Prepared). p.is_carried_on) c.input.view_is)
    (left_as merged.merging.desk c.desk-2.result.now c.plan.result.now c.periods.result.now (c.desk-2.ensures ∙ ap (λ (m : Merging). m.desk) is) c.plan.ensures.plan c.plan.ensures.kept
    c.periods.ensures.periods c.periods.ensures.count)
    (c.deref.ensures.value ∙ c.in-Ok-reported.ensures
    ∙ ap (λ (p : Prepared). new_line p.is_new ++ merge_report c.merging-merging.result.now.desk.plan.pit (commits_of c.merging-merging.result.now.desk.history) c.merging-merging.result.now.lines) c.input.view_is
    ∙ ap (λ (m : Merging). new_line c.args.input.is_new ++ merge_report m.desk.plan.pit (commits_of m.desk.history) m.lines) is)
    (λ there. c.deref-2.ensures.value ∙ c.in-Ok-lines_if.ensures.text (c.is_some.ensures ∙ was_there _ c.args.history.now c.write_outputs.new.history there)
    ∙ ap (λ (es : List Answered). history_text es) (c.history.ensures.history ∙ ap (λ (d : State). d.history) desk_is))
    (ap (λ (s : Status). Ok s) (c.status_of.ensures ∙ ap (λ (b : Bool). merge_status b) (c.is_whole.ensures ∙ ap (λ (m : Merging). m.is_whole) is)))
    c.write_outputs.ensures.written)
