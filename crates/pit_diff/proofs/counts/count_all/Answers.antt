use Rattle.std.proofs.Common.{rules, ◌<◌, ap, ◌∙◌, arith, length, refl}
use Rattle.pit_model.specs.Pit.{Pit}
use Rattle.pit_plan.specs.Standing.{period_of}
use Rattle.pit_diff.proofs.Counting.{cell-is, is-period, table_number-few, counts-next}
use Rattle.pit_diff.proofs.counts.count_all.Goals as goal

pub count_one-requires-clause-room : goal.count_one-requires-clause-room
count_one-requires-clause-room g c =
    let old = c.args.old.now in
    let new = c.args.new.now in
    let same = ap (λ (p : Pit). p.periods) c.requires.same in
    let given = c.periods-periods.ensures ∙ ap (λ (p : Pit). p.periods) c.deposit.ensures in
    let blocks = ap (λ (p : Pit). p.blocks) c.deposit-2.ensures in
    let cell = cell-is c.cell.result c.periods-periods.result old.pit.periods c.period.result c.period-in-loop-b.result (period_of old c.loop-b.b) (period_of new c.loop-b.b) c.cell.ensures.is given c.period.ensures.period c.period-in-loop-b.ensures.period in
    let few =
    table_number-few (period_of old) (period_of new) old.pit.periods c.loop-b.counts.items c.loop-b.b c.cell.result (is-period old.pit.periods old.pit.periods c.period.result (period_of old c.loop-b.b) c.period.ensures.in_range refl c.period.ensures.period)
    (is-period new.pit.periods old.pit.periods c.period-in-loop-b.result (period_of new c.loop-b.b) c.period-in-loop-b.ensures.in_range same c.period-in-loop-b.ensures.period) c.loop-b.invariant.1 cell in
    omega (arith, few, c.loop-b-test.true, c.blocks-b-end.ensures.count, c.blocks-b-end.ensures.sound.few_blocks, c.loop-b.auto.b-end)

pub loop-b-preserved : goal.loop-b-preserved
loop-b-preserved g c =
    let old = c.args.old.now in
    let new = c.args.new.now in
    let same = ap (λ (p : Pit). p.periods) c.requires.same in
    let given = c.periods-periods.ensures ∙ ap (λ (p : Pit). p.periods) c.deposit.ensures in
    let cell = cell-is c.cell.result c.periods-periods.result old.pit.periods c.period.result c.period-in-loop-b.result (period_of old c.loop-b.b) (period_of new c.loop-b.b) c.cell.ensures.is given c.period.ensures.period c.period-in-loop-b.ensures.period in
    let within : c.cell.result < length c.loop-b.counts.items = search rules in (
      search rules,
      counts-next (period_of old) (period_of new) old.pit.periods c.loop-b.counts.items c.count_one.new.counts.items c.loop-b.b c.cell.result
          (is-period old.pit.periods old.pit.periods c.period.result (period_of old c.loop-b.b) c.period.ensures.in_range refl c.period.ensures.period)
          (is-period new.pit.periods old.pit.periods c.period-in-loop-b.result (period_of new c.loop-b.b) c.period-in-loop-b.ensures.in_range same c.period-in-loop-b.ensures.period) within cell c.count_one.ensures c.loop-b.invariant.1,
    )
