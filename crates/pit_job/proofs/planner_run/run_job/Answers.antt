use Rattle.std.proofs.Common.{[], ◌≡◌, ◌≤◌, arith}
use Rattle.pit_job.specs.Inside.Runs.{job_numbered}
use Rattle.pit_job.proofs.Retries.{grows-none, repeats-none, try-stopped, try-moved, try-answered, try-last}
use Rattle.pit_job.proofs.planner_run.run_job.Goals as goal

pub loop-before-init : goal.loop-before-init
loop-before-init g c = ([], grows-none c.args.planner, repeats-none g.S.Session.instance (job_numbered c.args.script.now.jobs c.args.n) c.args.n c.args.planner.seen)

pub returns-in-Stopped : goal.returns-in-Stopped
returns-in-Stopped g c =
    let few : c.loop-before.before ≤ c.args.retries = omega arith in
    try-stopped g.S.Session.instance g.S.Session.max_entries (job_numbered c.args.script.now.jobs c.args.n) c.args.retries c.args.n c.loop-before.before c.args.planner c.loop-before.now c.attempt-next.result.0 c.attempt-next.result.1
    c.in-Stopped.stop c.loop-before.invariant c.attempt-next.ensures c.in-Stopped.is few

pub returns-in-Stopped-tried : goal.returns-in-Stopped-tried
returns-in-Stopped-tried g c =
    let few : c.loop-before.before ≤ c.args.retries = c.loop-before.auto.before-end in
    try-stopped g.S.Session.instance g.S.Session.max_entries (job_numbered c.args.script.now.jobs c.args.n) c.args.retries c.args.n c.loop-before.before c.args.planner c.loop-before.now c.attempt-last.result.0 c.attempt-last.result.1
    c.in-Stopped-tried.stop c.loop-before.invariant c.attempt-last.ensures c.in-Stopped-tried.is few

pub returns-in-Answered : goal.returns-in-Answered
returns-in-Answered g c =
    let few : c.loop-before.before ≤ c.args.retries = omega arith in
    try-answered g.S.Session.instance g.S.Session.max_entries (job_numbered c.args.script.now.jobs c.args.n) c.args.retries c.args.n c.loop-before.before c.args.planner c.loop-before.now c.attempt-next.result.0 c.attempt-next.result.1
    c.in-Answered.reply c.outcome_of.result c.loop-before.invariant c.attempt-next.ensures c.in-Answered.is c.outcome_of.ensures few

pub loop-before-preserved : goal.loop-before-preserved
loop-before-preserved g c =
    try-moved g.S.Session.instance g.S.Session.max_entries (job_numbered c.args.script.now.jobs c.args.n) c.args.n c.loop-before.before c.args.planner c.loop-before.now c.attempt-next.result.0 c.attempt-next.result.1
    c.in-Moved.block c.in-Moved.version c.loop-before.invariant c.attempt-next.ensures c.in-Moved.is

pub returns-in-Moved-tried : goal.returns-in-Moved-tried
returns-in-Moved-tried g c =
    let all : c.loop-before.before ≡ c.args.retries = omega arith in
    try-last g.S.Session.instance g.S.Session.max_entries (job_numbered c.args.script.now.jobs c.args.n) c.args.retries c.args.n c.loop-before.before c.args.planner c.loop-before.now c.attempt-last.result.0 c.attempt-last.result.1
    c.in-Moved-tried.block c.in-Moved-tried.version c.loop-before.invariant c.attempt-last.ensures c.in-Moved-tried.is all

pub returns-in-Answered-tried : goal.returns-in-Answered-tried
returns-in-Answered-tried g c =
    let few : c.args.retries ≤ c.args.retries = omega arith in
    let all : c.loop-before.before ≡ c.args.retries = omega arith in
    try-answered g.S.Session.instance g.S.Session.max_entries (job_numbered c.args.script.now.jobs c.args.n) c.args.retries c.args.n c.args.retries c.args.planner c.loop-before.now c.attempt-last.result.0 c.attempt-last.result.1
    c.in-Answered-tried.reply c.outcome_of-in-Answered-tried.result (rw all at c.loop-before.invariant) c.attempt-last.ensures c.in-Answered-tried.is c.outcome_of-in-Answered-tried.ensures few
