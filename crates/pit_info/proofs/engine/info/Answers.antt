use Rattle.std.proofs.Common.{inl, inr, ℕ, List, is_some, sym, subst, ◌∙◌}
use Rattle.pit_step.specs.Devices.{reading_of, writing_of, known_if, write_step}
use Rattle.pit_step.specs.declared.status.Status.TheVariants.{Fine}
use Rattle.pit_step.specs.Steps.{IsResultOf}
use Rattle.pit_step.proofs.CallerLemmas.{keeps_itself}
use Rattle.pit_info.specs.Info.{inputs_step, rendered_step}
use Rattle.pit_info.proofs.Runs.{is_some-reading, rendered-as, ends}
use Rattle.pit_info.proofs.engine.info.Goals as goal

pub returns-in-Err-clause-done : goal.returns-in-Err-clause-done
returns-in-Err-clause-done g c = inl (c.in-Err.ensures.done, (tt, keeps_itself (g.W.Sink.contents c.args.out.now)))

pub returns-in-Err-rendered-clause-done : goal.returns-in-Err-rendered-clause-done
returns-in-Err-rendered-clause-done g c =
    inr ((c.in-Ok.read.0, c.in-Ok.read.1.items), c.in-Ok.ensures.done, inl (c.in-Err-rendered.ensures, keeps_itself (g.W.Sink.contents c.args.out.now)))

pub returns-clause-done : goal.returns-clause-done
returns-clause-done g c =
    let model = reading_of (g.M.Source.remaining c.args.model.now) (g.M.Source.remaining c.read_inputs.new.model) (g.M.Source.has_failed c.read_inputs.new.model) in
    let precedence = reading_of (g.P.Source.remaining c.args.precedence.now) (g.P.Source.remaining c.read_inputs.new.precedence) (g.P.Source.has_failed c.read_inputs.new.precedence) in
    let blocks = known_if (λ old new. reading_of (g.B.Source.remaining old) (g.B.Source.remaining new) (g.B.Source.has_failed new)) c.args.blocks.now c.read_inputs.new.blocks in
    let out = writing_of (g.W.Sink.contents c.args.out.now) (g.W.Sink.contents c.write_answer.new.out) (g.W.Sink.has_failed c.write_answer.new.out) in
    let unknown = c.in-Ok.read.1.items in
    let text = c.in-Ok-rendered.text.items in
    ends (inputs_step model precedence blocks) (rendered_step (is_some blocks)) (write_step out (λ (t : List ℕ). t) (λ _. Fine)) tt (c.in-Ok.read.0, unknown) c.in-Ok.ensures.done text c.write_answer.result
    (rendered-as c.is_some.result (is_some blocks) c.in-Ok.read.0 c.deref.result.now unknown text
    (c.is_some.ensures ∙ sym (is_some-reading (λ old new. reading_of (g.B.Source.remaining old) (g.B.Source.remaining new) (g.B.Source.has_failed new)) c.args.blocks.now c.read_inputs.new.blocks c.in-Ok.ensures.same))
    c.deref.ensures.value c.in-Ok-rendered.ensures)
    (subst (λ (xs : List ℕ). IsResultOf (write_step out (λ (given : Unit {0}). xs) (λ _. Fine)) tt c.write_answer.result) c.deref-2.ensures.value c.write_answer.ensures)
