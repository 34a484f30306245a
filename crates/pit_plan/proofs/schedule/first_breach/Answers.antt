use Rattle.std.proofs.Common.{◌≡◌, None, sym, ap, subst, ◌∙◌, rules}
use Rattle.std.specs.Int.{w64, w128}
use Rattle.std.proofs.lemmas.Int.{to_z-of_z}
use Rattle.pit_num.specs.Least.{ComesBefore, IsLeast}
use Rattle.pit_plan.specs.Schedule.{by_block}
use Rattle.pit_plan.specs.Limits.{at_cell}
use Rattle.pit_plan.specs.Breaches.{IsFirstBreach, IsOutOfOrder, IsOverLimit}
use Rattle.pit_plan.proofs.Good.{ordered-from_none, within-from_none}
use Rattle.pit_plan.proofs.schedule.first_breach.Goals as goal

pub returns-in_err-period : goal.returns-in_err-period
returns-in_err-period g c =
    let pit = c.args.pit.now in
    let s = by_block c.args.tally.now.periods in
    let lim = at_cell pit (g.L.Limits.limit_in c.args.limits.now) in
    let none : c.from_residual.result ≡ None = search rules in
    subst (IsFirstBreach pit s lim) (sym none) (record {
      ordered = ordered-from_none pit s (subst (IsLeast ComesBefore (IsOutOfOrder pit s)) c.in_default.is c.first_out_of_order.ensures);
      within = within-from_none pit s lim (subst (IsLeast ComesBefore (IsOverLimit pit s lim)) c.in_err-period.was c.first_over.ensures);
    })

pub returns : goal.returns
returns g c =
    let pit = c.args.pit.now in
    let s = by_block c.args.tally.now.periods in
    let lim = at_cell pit (g.L.Limits.limit_in c.args.limits.now) in
    record {
      ordered = ordered-from_none pit s (subst (IsLeast ComesBefore (IsOutOfOrder pit s)) c.in_default.is c.first_out_of_order.ensures);
      least = subst (IsLeast ComesBefore (IsOverLimit pit s lim)) c.in_ok-period.was c.first_over.ensures;
      load_is = to_z-of_z w128 c.load.result (search rules) ∙ c.load.ensures;
      limit_is = rw (to_z-of_z w64 c.in_ok-limit.limit (search rules)) (sym (c.limit.ensures ∙ ap (g.L.Limits.limit_in c.args.limits.now) c.cell.ensures.cell) ∙ c.in_ok-limit.was);
    }
