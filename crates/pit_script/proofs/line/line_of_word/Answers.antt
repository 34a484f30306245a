use Rattle.std.proofs.Common.{sym}
use Rattle.pit_script.proofs.line.line_of_word.Goals as goal

pub returns-in-Read-clause-stands : goal.returns-in-Read-clause-stands
returns-in-Read-clause-stands g c = c.read_step.ensures.stands c.args.jobs

pub returns-in-Put-clause-stands : goal.returns-in-Put-clause-stands
returns-in-Put-clause-stands g c = c.put_step.ensures.stands c.args.jobs

pub returns-in-Clear-clause-stands : goal.returns-in-Clear-clause-stands
returns-in-Clear-clause-stands g c = c.clear_step.ensures.stands c.args.jobs

pub returns-in-Shift-clause-stands : goal.returns-in-Shift-clause-stands
returns-in-Shift-clause-stands g c = c.shift_step.ensures.stands c.args.jobs

pub returns-in-Bench-clause-stands : goal.returns-in-Bench-clause-stands
returns-in-Bench-clause-stands g c = c.bench_step.ensures.stands c.args.jobs

pub returns-in-Revise-clause-stands : goal.returns-in-Revise-clause-stands
returns-in-Revise-clause-stands g c = c.revise_step.ensures.stands c.args.jobs

pub returns-in-Commit-clause-stands : goal.returns-in-Commit-clause-stands
returns-in-Commit-clause-stands g c = c.end_line_of.ensures.stands c.args.jobs

pub returns-in-Abort-clause-stands : goal.returns-in-Abort-clause-stands
returns-in-Abort-clause-stands g c = c.end_line_of-in-Abort.ensures.stands c.args.jobs

pub returns-in-Begin-clause-in_range : goal.returns-in-Begin-clause-in_range
returns-in-Begin-clause-in_range g c = c.begin_line.ensures.in_range c.args.pit.now

pub returns-in-Read-clause-in_range : goal.returns-in-Read-clause-in_range
returns-in-Read-clause-in_range g c = c.read_step.ensures.in_range c.args.pit.now (sym c.blocks-in-Read.ensures.count)

pub returns-in-Put-clause-in_range : goal.returns-in-Put-clause-in_range
returns-in-Put-clause-in_range g c = c.put_step.ensures.in_range c.args.pit.now (sym c.blocks-in-Put.ensures.count) (sym c.periods.ensures)

pub returns-in-Clear-clause-in_range : goal.returns-in-Clear-clause-in_range
returns-in-Clear-clause-in_range g c = c.clear_step.ensures.in_range c.args.pit.now (sym c.blocks-in-Clear.ensures.count)

pub returns-in-Shift-clause-in_range : goal.returns-in-Shift-clause-in_range
returns-in-Shift-clause-in_range g c = c.shift_step.ensures.in_range c.args.pit.now (sym c.blocks-in-Shift.ensures.count)

pub returns-in-Revise-clause-in_range : goal.returns-in-Revise-clause-in_range
returns-in-Revise-clause-in_range g c = c.revise_step.ensures.in_range c.args.pit.now (sym c.resources.ensures) (sym c.periods-in-Revise.ensures)

pub returns-in-Commit-clause-in_range : goal.returns-in-Commit-clause-in_range
returns-in-Commit-clause-in_range g c = c.end_line_of.ensures.in_range c.args.pit.now

pub returns-in-Abort-clause-in_range : goal.returns-in-Abort-clause-in_range
returns-in-Abort-clause-in_range g c = c.end_line_of-in-Abort.ensures.in_range c.args.pit.now

pub returns-in-Expect-clause-stands : goal.returns-in-Expect-clause-stands
returns-in-Expect-clause-stands g c = c.expect_step.ensures.stands c.args.jobs

pub returns-in-Cone-clause-stands : goal.returns-in-Cone-clause-stands
returns-in-Cone-clause-stands g c = c.put_step-in-Cone.ensures.stands c.args.jobs

pub returns-in-Push-clause-stands : goal.returns-in-Push-clause-stands
returns-in-Push-clause-stands g c = c.put_step-in-Push.ensures.stands c.args.jobs

pub returns-in-Expect-clause-in_range : goal.returns-in-Expect-clause-in_range
returns-in-Expect-clause-in_range g c = c.expect_step.ensures.in_range c.args.pit.now (sym c.blocks-in-Expect.ensures.count) (sym c.periods-in-Expect.ensures)

pub returns-in-Cone-clause-in_range : goal.returns-in-Cone-clause-in_range
returns-in-Cone-clause-in_range g c = c.put_step-in-Cone.ensures.in_range c.args.pit.now (sym c.blocks-in-Cone.ensures.count) (sym c.periods-in-Cone.ensures)

pub returns-in-Push-clause-in_range : goal.returns-in-Push-clause-in_range
returns-in-Push-clause-in_range g c = c.put_step-in-Push.ensures.in_range c.args.pit.now (sym c.blocks-in-Push.ensures.count) (sym c.periods-in-Push.ensures)
