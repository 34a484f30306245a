use Rattle.std.proofs.Common.{inl, arith, get_or, true, false, refl, ◌∙◌}
use Rattle.pit_job.specs.Outcomes.{IsRead, IsReadBy}
use Rattle.pit_job.specs.Effect.{read_in}
use Rattle.pit_job.specs.Inside.Doing.{own_of, Meets}
use Rattle.pit_job.proofs.Seeing.{sees-same, sees-trans}
use Rattle.pit_job.proofs.Stepping.{steps-end, steps-next, steps-stop}
use Rattle.pit_job.proofs.Meeting.{stop-handed, steps-meet}
use Rattle.pit_job.proofs.Noting.{one-read}
use Rattle.pit_job.proofs.Unmoved.{looks-map, looks-trans, stop-map, stop-later, unmoved-handed}
use Rattle.pit_job.proofs.doing.do_steps.Goals as goal

pub returns-then-not-branch-clause-ok : goal.returns-then-not-branch-clause-ok
returns-then-not-branch-clause-ok g c =
    c.loop-step.invariant.does c.do_step.new.t false
    (steps-stop g.S.Session.instance c.loop-step.t c.do_step.new.t c.args.steps.now c.loop-step.step-index _ (omega arith) (rw c.if-not-branch.true at c.in_ok-do_step.ensures.ok))

pub returns-in_err-do_step-clause-err : goal.returns-in_err-do_step-clause-err
returns-in_err-do_step-clause-err g c =
    stop-handed c.from_residual.result c.in_err-do_step.field-0.0 (Meets (IsRead g.S.Session.instance c.args.steps.now) c.args.t.now.work.start c.do_step.new.t.planner.seen) c.from_residual.ensures.0 c.from_residual.ensures.1
    (steps-meet g.S.Session.instance (read_in c.do_step.new.t.work.reads) (own_of c.loop-step.t.work) c.args.steps.now c.loop-step.step-index _ c.args.t.now.work.start c.loop-step.t.work.start c.do_step.new.t.planner.seen _ (omega arith)
    c.loop-step.invariant.start c.in_err-do_step.ensures.err.meets)

pub loop-step-preserved : goal.loop-step-preserved
loop-step-preserved g c =
    let does = rw c.if-not-branch.false at c.in_ok-do_step.ensures.ok in
    record {
      sees = sees-trans _ _ _ c.loop-step.invariant.sees c.in_ok-do_step.ensures.sees;
      start = does.same.start ∙ c.loop-step.invariant.start;
      unmoved = looks-trans (IsRead g.S.Session.instance c.args.steps.now) c.args.t.now c.loop-step.t c.do_step.new.t c.loop-step.invariant.start c.loop-step.invariant.unmoved
          (looks-map (λ b. IsReadBy g.S.Session.instance b (get_or c.args.steps.now c.loop-step.step-index _)) (IsRead g.S.Session.instance c.args.steps.now) c.loop-step.t c.do_step.new.t
          (λ b is. one-read g.S.Session.instance c.args.steps.now c.loop-step.step-index _ b (omega arith) is) c.in_ok-do_step.ensures.unmoved);
      does = λ new goes rest. c.loop-step.invariant.does new goes
          (steps-next g.S.Session.instance c.loop-step.t c.do_step.new.t new c.args.steps.now c.loop-step.step-index _ goes (omega arith) does rest);
    }

pub returns-clause-ok : goal.returns-clause-ok
returns-clause-ok g c =
    c.loop-step.invariant.does c.loop-step.t true (steps-end g.S.Session.instance c.loop-step.t c.args.steps.now c.loop-step.step-index (omega arith))

pub loop-step-init : goal.loop-step-init
loop-step-init g c = record { sees = sees-same c.args.t.now.planner c.args.t.now.planner refl; start = refl; unmoved = inl refl; does = λ new goes rest. rest }

pub returns-then-not-branch-clause-sees : goal.returns-then-not-branch-clause-sees
returns-then-not-branch-clause-sees g c = sees-trans c.args.t.now.planner c.loop-step.t.planner c.do_step.new.t.planner c.loop-step.invariant.sees c.do_step.ensures.sees

pub returns-in_err-do_step-clause-sees : goal.returns-in_err-do_step-clause-sees
returns-in_err-do_step-clause-sees g c = sees-trans c.args.t.now.planner c.loop-step.t.planner c.do_step.new.t.planner c.loop-step.invariant.sees c.do_step.ensures.sees

pub returns-then-not-branch-clause-unmoved : goal.returns-then-not-branch-clause-unmoved
returns-then-not-branch-clause-unmoved g c =
    looks-trans (IsRead g.S.Session.instance c.args.steps.now) c.args.t.now c.loop-step.t c.do_step.new.t c.loop-step.invariant.start c.loop-step.invariant.unmoved
    (looks-map (λ b. IsReadBy g.S.Session.instance b (get_or c.args.steps.now c.loop-step.step-index _)) (IsRead g.S.Session.instance c.args.steps.now) c.loop-step.t c.do_step.new.t
    (λ b is. one-read g.S.Session.instance c.args.steps.now c.loop-step.step-index _ b (omega arith) is) c.in_ok-do_step.ensures.unmoved)

pub returns-in_err-do_step-clause-unmoved : goal.returns-in_err-do_step-clause-unmoved
returns-in_err-do_step-clause-unmoved g c =
    unmoved-handed (IsRead g.S.Session.instance c.args.steps.now) c.args.t.now c.do_step.new.t c.from_residual.result c.in_err-do_step.field-0.0 c.from_residual.ensures.0 c.from_residual.ensures.1
    (stop-later (IsRead g.S.Session.instance c.args.steps.now) c.args.t.now c.loop-step.t c.do_step.new.t c.in_err-do_step.field-0.0 c.loop-step.invariant.start c.loop-step.invariant.unmoved
    (stop-map (λ b. IsReadBy g.S.Session.instance b (get_or c.args.steps.now c.loop-step.step-index _)) (IsRead g.S.Session.instance c.args.steps.now) c.loop-step.t c.do_step.new.t c.in_err-do_step.field-0.0
    (λ b is. one-read g.S.Session.instance c.args.steps.now c.loop-step.step-index _ b (omega arith) is) c.in_err-do_step.ensures.unmoved))

pub returns-clause-unmoved : goal.returns-clause-unmoved
returns-clause-unmoved g c = c.loop-step.invariant.unmoved
