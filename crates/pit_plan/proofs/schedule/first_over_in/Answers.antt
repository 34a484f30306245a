use Rattle.std.proofs.Common.{ℕ, subst, sym, ◌∙◌, arith, inl, inr}
use Rattle.std.proofs.lemmas.Bool.{true≢false}
use Rattle.std.proofs.lemmas.Bool.Decides.{eqb_tells}
use Rattle.pit_plan.specs.Schedule.{by_block}
use Rattle.pit_plan.specs.Limits.{at_cell}
use Rattle.pit_plan.specs.Breaches.{IsOverLimit}
use Rattle.pit_plan.proofs.schedule.first_over_in.Goals as goal

pub returns-then-not-keeps_limit : goal.returns-then-not-keeps_limit
returns-then-not-keeps_limit g c = record {
  passes = (c.requires.period, omega (arith, c.loop-r-test.true, c.resources-r-end.ensures), sym c.keeps_limit.ensures ∙ c.if-not-keeps_limit.true);
  first = λ r over less. c.loop-r.invariant r less over;
}

pub loop-r-preserved : goal.loop-r-preserved
loop-r-preserved g c = λ r below over.
    elim (eqb_tells r c.loop-r.r) [
      | inl last ↦
          let here = subst (λ (k : ℕ). IsOverLimit c.args.pit.now (by_block c.args.tally.now.periods) (at_cell c.args.pit.now (g.L.Limits.limit_in c.args.limits.now)) (c.args.t, k)) last.1 over in
          true≢false (sym c.if-not-keeps_limit.false ∙ (c.keeps_limit.ensures ∙ here.2))
      | inr other ↦ c.loop-r.invariant r (omega (arith, below, other.1)) over
    ]

pub returns : goal.returns
returns g c = λ r over. c.loop-r.invariant r (omega (arith, over.1)) over
