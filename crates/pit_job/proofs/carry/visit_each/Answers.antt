use Rattle.std.proofs.Common.{inr, ◌≡◌, get_or, subst, sym, arith}
use Rattle.std.specs.List.{Contains}
use Rattle.std.proofs.lemmas.List.Elements.{Contains-get_or}
use Rattle.pit_job.specs.declared.doing.StepStop.TheVariants as stop
use Rattle.pit_job.specs.Inside.Doing.{StopsAt}
use Rattle.pit_job.proofs.Meeting.{stop-handed, stopped-map, stopped-more}
use Rattle.pit_job.proofs.Unmoved.{looks-map, looks-trans, stop-map, stop-later, unmoved-handed}
use Rattle.pit_job.proofs.Walking.{visit-stops, visits-next}
use Rattle.pit_job.proofs.carry.visit_each.Goals as goal

pub loop-b-preserved : goal.loop-b-preserved
loop-b-preserved g c = record {
  so_far = stopped-more (Contains c.args.blocks.now) c.args.t.now c.loop-b.t c.visit.new.t stop.NoMemory c.loop-b.invariant.so_far
      (stopped-map (λ b. b ≡ get_or c.args.blocks.now c.loop-b.b-index 0) (Contains c.args.blocks.now) c.loop-b.t c.visit.new.t stop.NoMemory
      (λ b same absent. subst (Contains c.args.blocks.now) (sym same) (Contains-get_or c.args.blocks.now c.loop-b.b-index 0 (omega arith)))
      (visit-stops c.args.way c.args.period c.loop-b.t c.loop-b.walk _ c.visit.new.t c.visit.new.walk (inr c.in_ok-visit.ensures.ok)));
  unmoved = looks-trans (Contains c.args.blocks.now) c.args.t.now c.loop-b.t c.visit.new.t c.loop-b.invariant.so_far.same.start c.loop-b.invariant.unmoved
      (looks-map (λ b. b ≡ get_or c.args.blocks.now c.loop-b.b-index 0) (Contains c.args.blocks.now) c.loop-b.t c.visit.new.t
      (λ b same. subst (Contains c.args.blocks.now) (sym same) (Contains-get_or c.args.blocks.now c.loop-b.b-index 0 (omega arith))) c.in_ok-visit.ensures.unmoved);
  does = λ new after rest. c.loop-b.invariant.does new after
      (visits-next c.args.way c.args.period c.loop-b.t c.visit.new.t new c.loop-b.walk c.visit.new.walk after c.args.blocks.now c.loop-b.b-index _ (omega arith) (inr c.in_ok-visit.ensures.ok) rest);
}

pub returns-in_err-visit-clause-err : goal.returns-in_err-visit-clause-err
returns-in_err-visit-clause-err g c =
    stop-handed c.from_residual.result c.in_err-visit.field-0.0 (λ why. StopsAt (Contains c.args.blocks.now) c.args.t.now why c.visit.new.t) c.from_residual.ensures.0 c.from_residual.ensures.1
    (stopped-more (Contains c.args.blocks.now) c.args.t.now c.loop-b.t c.visit.new.t c.in_err-visit.field-0.0 c.loop-b.invariant.so_far
    (stopped-map (λ b. b ≡ get_or c.args.blocks.now c.loop-b.b-index 0) (Contains c.args.blocks.now) c.loop-b.t c.visit.new.t c.in_err-visit.field-0.0
    (λ b same absent. subst (Contains c.args.blocks.now) (sym same) (Contains-get_or c.args.blocks.now c.loop-b.b-index 0 (omega arith))) c.in_err-visit.ensures.err))

pub returns-in_err-visit-clause-unmoved : goal.returns-in_err-visit-clause-unmoved
returns-in_err-visit-clause-unmoved g c =
    unmoved-handed (Contains c.args.blocks.now) c.args.t.now c.visit.new.t c.from_residual.result c.in_err-visit.field-0.0 c.from_residual.ensures.0 c.from_residual.ensures.1
    (stop-later (Contains c.args.blocks.now) c.args.t.now c.loop-b.t c.visit.new.t c.in_err-visit.field-0.0 c.loop-b.invariant.so_far.same.start c.loop-b.invariant.unmoved
    (stop-map (λ b. b ≡ get_or c.args.blocks.now c.loop-b.b-index 0) (Contains c.args.blocks.now) c.loop-b.t c.visit.new.t c.in_err-visit.field-0.0
    (λ b same. subst (Contains c.args.blocks.now) (sym same) (Contains-get_or c.args.blocks.now c.loop-b.b-index 0 (omega arith))) c.in_err-visit.ensures.unmoved))
