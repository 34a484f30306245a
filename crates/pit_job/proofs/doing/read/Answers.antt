use Rattle.pit_job.proofs.Stepping.{read-does}
use Rattle.pit_job.proofs.doing.read.Goals as goal

pub returns-clause-ok : goal.returns-clause-ok
returns-clause-ok g c = read-does g.S.Session.instance c.args.t.now c.look.new.t c.args.b c.in_ok-_period._period c.in_ok-_period.ensures.ok
