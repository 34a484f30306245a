use Rattle.pit_run.proofs.threads.run_unless_refused.Goals as goal

pub returns-then-load-number : goal.returns-then-load-number
returns-then-load-number g c = c.finish_planner.ensures c.args.shared.now.retries c.args.script.now.jobs
