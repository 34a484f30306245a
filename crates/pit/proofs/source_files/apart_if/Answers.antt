use Rattle.std.proofs.Common.{Some}
use Rattle.pit.proofs.Apart.{if-meets}
use Rattle.pit.proofs.source_files.apart_if.Goals as goal

pub returns-in-Some-clause-fault : goal.returns-in-Some-clause-fault
returns-in-Some-clause-fault g c = rw c.in-Some.is (if-meets (g.D.Disk.told c.args.disk.now) (Some c.args.history.now) c.in-Some.file c.apart.result c.apart.ensures.fault)
