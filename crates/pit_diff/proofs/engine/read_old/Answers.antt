use Rattle.std.proofs.Common.{inr, sym, subst, ◌∙◌}
use Rattle.std.proofs.lemmas.Result.{MatchResult-weaker}
use Rattle.pit_plan.specs.Standing.{Standing}
use Rattle.pit_step.specs.declared.input.Input.TheVariants.{Old}
use Rattle.pit_step.specs.declared.fault.CliFault.{CliFault}
use Rattle.pit_step.specs.Devices.{reading_of}
use Rattle.pit_state.specs.States.{IsStateFault, plan_step}
use Rattle.pit_state.proofs.CallerLemmas.{state-stop}
use Rattle.pit_diff.proofs.engine.read_old.Goals as goal

pub returns-in-Ok : goal.returns-in-Ok
returns-in-Ok g c =
    let read = reading_of (g.O.Source.remaining c.args.old.now) (g.O.Source.remaining c.read_state.new.schedule) (g.O.Source.has_failed c.read_state.new.schedule) in
    let pit = c.args.pit in
    let given = c.in-Ok.ensures in
    MatchResult-weaker c.with_pit.result c.with_pit.ensures
    (λ both is. (subst (λ (p : Standing). (plan_step Old read).Gives pit p) (sym is.0) given, is.1 ∙ given.2.same_pit))
    (λ fault is. inr (given.0, given.1, subst (λ (f : CliFault). IsStateFault Old pit given.0 f) (sym is) (state-stop Old pit given.0 given.2.commits given.2.stands)))
