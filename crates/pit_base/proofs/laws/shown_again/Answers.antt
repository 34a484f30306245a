use Rattle.pit_base.proofs.Again.{shown-stands, history-stands, history-shown}
use Rattle.pit_base.proofs.laws.shown_again.Goals as goal

pub returns-clause-any : goal.returns-clause-any
returns-clause-any c = λ at pit text answer sound shown few. shown-stands at pit text answer sound shown few

pub returns-clause-history : goal.returns-clause-history
returns-clause-history c = λ at pit entries answer sound few is. history-stands c.one_history.ensures.once at pit entries answer is sound few

pub returns-clause-written : goal.returns-clause-written
returns-clause-written c = λ at pit history answer range shown. history-shown at pit history answer (c.one_history.ensures.stands history range) shown
