use Rattle.std.proofs.Common.{inl, inr, ◌≡◌, ◌<◌, ◌≤◌, length, sym, ap, subst, ◌∙◌, arith}
use Rattle.std.specs.List.{All, Contains}
use Rattle.pit_model.specs.Pit.{Pit}
use Rattle.pit_job.specs.Cones.{Reaches, here}
use Rattle.pit_job.specs.Effect.{leads_to}
use Rattle.pit_job.specs.Inside.Doing.{StopsAt}
use Rattle.pit_job.specs.Inside.Walking.{IsReadNow}
use Rattle.pit_job.proofs.Meeting.{stop-handed, stopped-map}
use Rattle.pit_job.proofs.Unmoved.{looks-map, looks-trans, stop-map, stop-later, unmoved-handed}
use Rattle.pit_job.proofs.Walking.{gone-first, gone-more, gone-few, gone-reached, past-found, found-within, walk-stops}
use Rattle.pit_job.proofs.carry.walked.Goals as goal

pub returns-in_err-visit-clause-err : goal.returns-in_err-visit-clause-err
returns-in_err-visit-clause-err g c =
    stop-handed c.from_residual.result c.in_err-visit.field-0.0 (λ why. StopsAt (IsReadNow g.S.Session.instance c.args.way c.args.b c.args.period c.visit.new.t) c.args.t.now why c.visit.new.t)
    c.from_residual.ensures.0 c.from_residual.ensures.1
    (stopped-map (λ block. block ≡ c.args.b) (IsReadNow g.S.Session.instance c.args.way c.args.b c.args.period c.visit.new.t) c.args.t.now c.visit.new.t c.in_err-visit.field-0.0 (λ block same absent. inl same)
    c.in_err-visit.ensures.err)

pub loop-i-init : goal.loop-i-init
loop-i-init g c = record {
  gone = gone-first g.S.Session.instance c.args.way c.args.b c.args.period c.args.t.now c.visit.new.t c.restart.new.self c.visit.new.walk c.requires.block c.restart.ensures (inr c.in_ok-visit.ensures.ok);
  unmoved = looks-map (λ block. block ≡ c.args.b) (Reaches (leads_to g.S.Session.instance c.args.way) c.args.b) c.args.t.now c.visit.new.t
      (λ block same. subst (Reaches (leads_to g.S.Session.instance c.args.way) c.args.b) (sym same) here) c.in_ok-visit.ensures.unmoved;
}

pub returns-in_default-clause-ok : goal.returns-in_default-clause-ok
returns-in_default-clause-ok g c = (c.loop-i.i, past-found c.loop-i.walk c.loop-i.i (sym c.member.ensures ∙ c.in_default.is), c.loop-i.invariant.gone)

pub led_by-requires : goal.led_by-requires
led_by-requires g c =
    subst (λ (pit : Pit). c.in-Some.m < pit.blocks) (sym c.requires.pit)
    (found-within g.S.Session.instance c.args.way c.args.b c.args.period c.args.t.now c.loop-i.t c.loop-i.walk c.loop-i.i c.in-Some.m c.loop-i.invariant.gone (sym c.member.ensures ∙ c.in-Some.is)).0

pub returns-in_err-visit_each-clause-err : goal.returns-in_err-visit_each-clause-err
returns-in_err-visit_each-clause-err g c =
    stop-handed c.from_residual-in_err-visit_each.result c.in_err-visit_each.field-0.0
    (λ why. StopsAt (IsReadNow g.S.Session.instance c.args.way c.args.b c.args.period c.visit_each.new.t) c.args.t.now why c.visit_each.new.t)
    c.from_residual-in_err-visit_each.ensures.0 c.from_residual-in_err-visit_each.ensures.1
    (walk-stops g.S.Session.instance c.args.way c.args.b c.args.period c.args.t.now c.loop-i.t c.visit_each.new.t c.loop-i.walk c.loop-i.i c.in-Some.m c.led_by.result.now
    c.in_err-visit_each.field-0.0 c.loop-i.invariant.gone (sym c.member.ensures ∙ c.in-Some.is) (c.led_by.ensures.value ∙ ap (λ (p : Pit). leads_to p c.args.way c.in-Some.m) c.requires.pit)
    c.in_err-visit_each.ensures.err)

pub loop-i-preserved : goal.loop-i-preserved
loop-i-preserved g c = record {
  gone = gone-more g.S.Session.instance c.args.way c.args.b c.args.period c.args.t.now c.loop-i.t c.visit_each.new.t c.loop-i.walk c.visit_each.new.walk c.loop-i.i c.in-Some.m c.led_by.result.now
      c.loop-i.invariant.gone (sym c.member.ensures ∙ c.in-Some.is) (c.led_by.ensures.value ∙ ap (λ (p : Pit). leads_to p c.args.way c.in-Some.m) c.requires.pit)
      (subst (λ (p : Pit). All (λ a. a < p.blocks) c.led_by.result.now) c.requires.pit c.led_by.ensures.below) c.in_ok-visit_each.ensures.ok;
  unmoved = looks-trans (Reaches (leads_to g.S.Session.instance c.args.way) c.args.b) c.args.t.now c.loop-i.t c.visit_each.new.t c.loop-i.invariant.gone.going.same.start c.loop-i.invariant.unmoved
      (looks-map (Contains c.led_by.result.now) (Reaches (leads_to g.S.Session.instance c.args.way) c.args.b) c.loop-i.t c.visit_each.new.t
      (gone-reached g.S.Session.instance c.args.way c.args.b c.args.period c.args.t.now c.loop-i.t c.loop-i.walk c.loop-i.i c.in-Some.m c.led_by.result.now c.loop-i.invariant.gone
      (sym c.member.ensures ∙ c.in-Some.is) (c.led_by.ensures.value ∙ ap (λ (p : Pit). leads_to p c.args.way c.in-Some.m) c.requires.pit))
      c.in_ok-visit_each.ensures.unmoved);
}

pub returns-clause-ok : goal.returns-clause-ok
returns-clause-ok g c =
    let few : length c.loop-i.walk.found ≤ g.S.Session.instance.blocks =
    gone-few g.S.Session.instance c.args.way c.args.b c.args.period c.args.t.now c.loop-i.t c.loop-i.walk c.loop-i.i c.loop-i.invariant.gone in
    let count = c.blocks-blocks.ensures.count in
    let same = ap (λ (p : Pit). p.blocks) c.requires.pit in
    let past : length c.loop-i.walk.found ≤ c.loop-i.i = omega arith in
    (c.loop-i.i, past, c.loop-i.invariant.gone)

pub returns-in_err-visit-clause-unmoved : goal.returns-in_err-visit-clause-unmoved
returns-in_err-visit-clause-unmoved g c =
    unmoved-handed (Reaches (leads_to g.S.Session.instance c.args.way) c.args.b) c.args.t.now c.visit.new.t c.from_residual.result c.in_err-visit.field-0.0 c.from_residual.ensures.0 c.from_residual.ensures.1
    (stop-map (λ block. block ≡ c.args.b) (Reaches (leads_to g.S.Session.instance c.args.way) c.args.b) c.args.t.now c.visit.new.t c.in_err-visit.field-0.0
    (λ block same. subst (Reaches (leads_to g.S.Session.instance c.args.way) c.args.b) (sym same) here) c.in_err-visit.ensures.unmoved)

pub returns-in_default-clause-unmoved : goal.returns-in_default-clause-unmoved
returns-in_default-clause-unmoved g c = c.loop-i.invariant.unmoved

pub returns-in_err-visit_each-clause-unmoved : goal.returns-in_err-visit_each-clause-unmoved
returns-in_err-visit_each-clause-unmoved g c =
    unmoved-handed (Reaches (leads_to g.S.Session.instance c.args.way) c.args.b) c.args.t.now c.visit_each.new.t c.from_residual-in_err-visit_each.result c.in_err-visit_each.field-0.0
    c.from_residual-in_err-visit_each.ensures.0 c.from_residual-in_err-visit_each.ensures.1
    (stop-later (Reaches (leads_to g.S.Session.instance c.args.way) c.args.b) c.args.t.now c.loop-i.t c.visit_each.new.t c.in_err-visit_each.field-0.0 c.loop-i.invariant.gone.going.same.start c.loop-i.invariant.unmoved
    (stop-map (Contains c.led_by.result.now) (Reaches (leads_to g.S.Session.instance c.args.way) c.args.b) c.loop-i.t c.visit_each.new.t c.in_err-visit_each.field-0.0
    (gone-reached g.S.Session.instance c.args.way c.args.b c.args.period c.args.t.now c.loop-i.t c.loop-i.walk c.loop-i.i c.in-Some.m c.led_by.result.now c.loop-i.invariant.gone
    (sym c.member.ensures ∙ c.in-Some.is) (c.led_by.ensures.value ∙ ap (λ (p : Pit). leads_to p c.args.way c.in-Some.m) c.requires.pit))
    c.in_err-visit_each.ensures.unmoved))

pub returns-clause-unmoved : goal.returns-clause-unmoved
returns-clause-unmoved g c = c.loop-i.invariant.unmoved
