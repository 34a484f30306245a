use Rattle.pit_step.specs.declared.input.Input.TheVariants.{Schedule}
use Rattle.pit_step.specs.Devices.{reading_of}
use Rattle.pit_state.proofs.CallerLemmas.{viewed}
use Rattle.pit_all.specs.AllText.{all_answer}
use Rattle.pit_all.proofs.engine.read_answer.Goals as goal

pub returns-in-Ok : goal.returns-in-Ok
returns-in-Ok g c =
    let read = reading_of (g.S.Source.remaining c.args.schedule.now) (g.S.Source.remaining c.read_state.new.schedule) (g.S.Source.has_failed c.read_state.new.schedule) in
    viewed all_answer Schedule read c.args.pit c.in-Ok.plan (λ answer. (answer.0.items, answer.1)) c.answer_of.result c.in-Ok.ensures c.answer_of.ensures
