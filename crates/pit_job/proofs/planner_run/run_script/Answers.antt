use Rattle.std.proofs.Common.{rules, ◌≡◌, ◌+◌, ◌-◌, ◌≤◌, ◌<◌, length, [], subst, sym, ap, refl, arith}
use Rattle.pit_script.specs.Jobs.{job_at}
use Rattle.pit_job.specs.Inside.Runs.{RanUpTo}
use Rattle.pit_job.proofs.Retries.{grows-none, up_to-none, up_to-whole, job-done, job-stops, job-unasked}
use Rattle.pit_job.proofs.planner_run.run_script.Goals as goal

pub loop-i-init : goal.loop-i-init
loop-i-init g c = (
  [],
  grows-none c.args.planner,
  subst (RanUpTo g.S.Session.instance g.S.Session.max_entries c.args.retries c.args.planner.seen c.args.planner.seen c.args.script.now.jobs 0 1 []) (sym c.new-outcomes.ensures.items)
      (up_to-none g.S.Session.instance g.S.Session.max_entries c.args.retries c.args.planner.seen c.args.script.now.jobs),
)

pub returns-in_default : goal.returns-in_default
returns-in_default g c =
    let jobs = c.args.script.now.jobs in
    let i = c.loop-i.i in
    let below : i < length jobs = search rules in
    job-unasked g.S.Session.instance g.S.Session.max_entries c.args.retries jobs i (i + 1) (job_at jobs i) c.args.planner c.loop-i.now c.loop-i.outcomes.items c.reserve.new.self.items
    below refl c.loop-i.invariant c.reserve.ensures.items

pub returns-in-Err : goal.returns-in-Err
returns-in-Err g c =
    let jobs = c.args.script.now.jobs in
    let i = c.loop-i.i in
    let below : i < length jobs = search rules in
    let here : i ≡ (i + 1) - 1 = omega arith in
    job-stops g.S.Session.instance g.S.Session.max_entries c.args.retries jobs i (i + 1) (job_at jobs ((i + 1) - 1)) c.args.planner c.loop-i.now c.run_job-next.result.0 c.loop-i.outcomes.items c.reserve.new.self.items
    c.in-Err.stop c.run_job-next.result.1 c.end_of.result below (ap (job_at jobs) here) c.loop-i.invariant c.run_job-next.ensures c.in-Err.is c.end_of.ensures c.reserve.ensures.items

pub loop-i-preserved : goal.loop-i-preserved
loop-i-preserved g c =
    let jobs = c.args.script.now.jobs in
    let i = c.loop-i.i in
    let below : i < length jobs = search rules in
    let here : i ≡ (i + 1) - 1 = omega arith in
    job-done g.S.Session.instance g.S.Session.max_entries c.args.retries jobs i (i + 1) (job_at jobs ((i + 1) - 1)) c.args.planner c.loop-i.now c.run_job-next.result.0 c.loop-i.outcomes.items c.push_in_room.new.outcomes.items
    c.in-Ok-answer.outcome c.run_job-next.result.1 below (ap (job_at jobs) here) c.loop-i.invariant c.run_job-next.ensures c.in-Ok-answer.is (search rules)

pub returns : goal.returns
returns g c =
    let i = c.loop-i.invariant in
    let all : length c.args.script.now.jobs ≤ c.loop-i.i = search rules in
    (i.0, i.1, up_to-whole g.S.Session.instance g.S.Session.max_entries c.args.retries c.args.planner.seen c.loop-i.now.seen c.args.script.now.jobs c.loop-i.i (c.loop-i.i + 1) i.0 c.loop-i.outcomes.items all i.2)
