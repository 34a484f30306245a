use Rattle.std.proofs.Common.{sym, ap, ◌∙◌}
use Rattle.std.proofs.lemmas.Result.{MatchResult-weaker}
use Rattle.pit_model.specs.Pit.{Pit}
use Rattle.pit_step.specs.declared.input.Input.TheVariants.{New}
use Rattle.pit_step.specs.Devices.{reading_of}
use Rattle.pit_state.proofs.CallerLemmas.{viewed}
use Rattle.pit_diff.specs.DiffText.{diff_answer}
use Rattle.pit_diff.proofs.engine.read_new.Goals as goal

pub returns-in-Ok : goal.returns-in-Ok
returns-in-Ok g c = λ before stands.
    let read = reading_of (g.N.Source.remaining c.args.new.now) (g.N.Source.remaining c.read_state.new.schedule) (g.N.Source.has_failed c.read_state.new.schedule) in
    let plan = c.in-Ok.plan in
    let same = c.in-Ok.ensures.2.same_pit ∙ sym c.requires in
    viewed (λ pit commits. diff_answer pit before commits) New read c.args.pit plan (λ answer. (answer.0.items, answer.1)) c.answer_of.result c.in-Ok.ensures
    (MatchResult-weaker c.answer_of.result c.answer_of.ensures
    (λ answer is commits leaves. is before commits stands leaves ∙ ap (λ (p : Pit). diff_answer p before commits) (sym same)) (λ fault is. is))
