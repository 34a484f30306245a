use Rattle.pit_show.proofs.Fronts.{front-commits, last-made}
use Rattle.pit_show.proofs.OneFront.{one-front, some-front}
use Rattle.pit_show.proofs.laws.one_front.Goals as goal

pub returns-clause-some : goal.returns-clause-some
returns-clause-some c = λ entries count within. some-front entries count within

pub returns-clause-once : goal.returns-clause-once
returns-clause-once c = λ entries count front other p q. one-front entries count front other p q

pub returns-clause-commits : goal.returns-clause-commits
returns-clause-commits c = λ entries count front is. front-commits entries count front is

pub returns-clause-last : goal.returns-clause-last
returns-clause-last c = λ entries count before e is. last-made entries count before e is
