use Rattle.std.proofs.Common.{ℕ, List, sym, subst}
use Rattle.std.proofs.lemmas.Result.{MatchResult-weaker}
use Rattle.pit_step.specs.declared.input.Input.TheVariants as input
use Rattle.pit_step.specs.Inputs.{IsSolutionOf, IsSolutionFault}
use Rattle.pit_merge.specs.Edits.{Ground}
use Rattle.pit_merge.specs.Inside.Parts.{IsBySchedule, IsScheduleFault}
use Rattle.pit_merge.proofs.Wanted.{schedule-wanted, schedule-fault, solution-unread}
use Rattle.pit_merge.proofs.parts.solution_wanted.Goals as goal

pub returns-in-Ok-clause-wanted : goal.returns-in-Ok-clause-wanted
returns-in-Ok-clause-wanted g c =
    let ground : Ground = c.args.ground.now in
    let text : List ℕ = c.args.text.items in
    let schedule : List (ℕ × ℕ) = c.deref-in-Ok.result.now in
    let stands =
    subst (λ (s : List (ℕ × ℕ)). IsSolutionOf ground.pit text s) (sym c.deref-in-Ok.ensures.value)
    (subst (λ (x : Ground). IsSolutionOf x.pit text c.in-Ok.schedule.items) c.ground.view_is
    (subst (λ (t : List ℕ). IsSolutionOf c.ground.inside.pit.now t c.in-Ok.schedule.items) c.deref.ensures.value c.in-Ok.ensures.result)) in
    MatchResult-weaker c.by_schedule.result c.by_schedule.ensures.wanted
    (λ w is. schedule-wanted ground c.args.from c.args.number text schedule c.requires.kind stands w.0 w.1.items
    (subst (λ (t : List ℕ). IsBySchedule ground c.args.from schedule t w.0 w.1.items) c.deref-in-Ok-2.ensures.value is))
    (λ fault is. schedule-fault ground c.args.from c.args.number text schedule c.requires.kind stands fault
    (subst (λ (n : ℕ). IsScheduleFault ground c.args.from (input.Edit n) text fault) c.from.ensures
    (subst (λ (t : List ℕ). IsScheduleFault ground c.args.from (input.Edit c.from.result) t fault) c.deref-in-Ok-2.ensures.value is)))

pub returns-clause-wanted : goal.returns-clause-wanted
returns-clause-wanted g c =
    let ground : Ground = c.args.ground.now in
    let text : List ℕ = c.args.text.items in
    let fault = c.in-Err.fault in
    solution-unread ground c.args.from c.args.number text fault c.requires.kind
    (subst (λ (n : ℕ). IsSolutionFault (input.Edit n) ground.pit text fault) c.from.ensures
    (subst (λ (x : Ground). IsSolutionFault (input.Edit c.from.result) x.pit text fault) c.ground.view_is
    (subst (λ (t : List ℕ). IsSolutionFault (input.Edit c.from.result) c.ground.inside.pit.now t fault) c.deref.ensures.value c.in-Err.ensures.result)))
