use Rattle.pit_opening.proofs.OneOpening.{opening-some, opening-apart, opening-same}
use Rattle.pit_opening.proofs.laws.one_opening.Goals as goal

pub returns-clause-some : goal.returns-clause-some
returns-clause-some c =
    opening-some c.one_desk_error.ensures.some c.one_desk_error.ensures.apart c.one_desk_error.ensures.same c.one_wrong_place.ensures.some c.one_wrong_place.ensures.apart
    c.one_wrong_place.ensures.same

pub returns-clause-apart : goal.returns-clause-apart
returns-clause-apart c =
    opening-apart c.one_desk_error.ensures.some c.one_desk_error.ensures.apart c.one_desk_error.ensures.same c.one_wrong_place.ensures.some c.one_wrong_place.ensures.apart
    c.one_wrong_place.ensures.same

pub returns-clause-same : goal.returns-clause-same
returns-clause-same c =
    opening-same c.one_desk_error.ensures.some c.one_desk_error.ensures.apart c.one_desk_error.ensures.same c.one_wrong_place.ensures.some c.one_wrong_place.ensures.apart
    c.one_wrong_place.ensures.same
