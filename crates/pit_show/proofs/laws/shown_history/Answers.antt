use Rattle.pit_show.proofs.Written.{shown_whole, whole_shown}
use Rattle.pit_show.proofs.laws.shown_history.Goals as goal

pub returns-clause-is : goal.returns-clause-is
returns-clause-is c = λ pit history answer range shown. shown_whole c.one_history.ensures.once pit history answer (c.one_history.ensures.stands history range) shown

pub returns-clause-shown : goal.returns-clause-shown
returns-clause-shown c = λ pit history front range fits is. whole_shown pit history front (c.one_history.ensures.stands history range) fits is
