use Rattle.pit_merge.proofs.OnePrepared.{prepare-outcome, prepare-again}
use Rattle.pit_merge.proofs.Outcome.{merge-outcome, merge-again, same-outputs}
use Rattle.pit_merge.proofs.laws.one_outcome.Goals as goal

pub returns-clause-begun : goal.returns-clause-begun
returns-clause-begun c = λ is_carried_on model precedence start told_model told_precedence told_start.
    prepare-outcome c.one_beginning.ensures.same c.one_beginning.ensures.apart c.one_beginning.ensures.faults is_carried_on model precedence start told_model told_precedence told_start

pub returns-clause-ended : goal.returns-clause-ended
returns-clause-ended c = λ options begun edits out lines kept told told_lines.
    merge-outcome options begun c.one_history.ensures.once c.one_result.ensures.either c.one_result.ensures.once c.one_reply.ensures.same c.one_opening.ensures.apart c.one_opening.ensures.same
    edits out lines kept told told_lines

pub returns-clause-begun_again : goal.returns-clause-begun_again
returns-clause-begun_again c =
    λ is_carried_on model precedence other_model other_precedence start other_start told_model told_precedence told_start same_model same_precedence same_start.
    prepare-again c.one_beginning.ensures.same c.one_beginning.ensures.apart c.one_beginning.ensures.faults is_carried_on model precedence start told_model told_precedence told_start other_model
    other_precedence other_start same_model same_precedence same_start

pub returns-clause-ended_again : goal.returns-clause-ended_again
returns-clause-ended_again c = λ options begun edits other_edits out lines kept other_out other_lines other_kept told same.
    merge-again options begun c.one_history.ensures.once c.one_result.ensures.either c.one_result.ensures.once c.one_reply.ensures.same c.one_opening.ensures.apart c.one_opening.ensures.same
    edits out lines kept told other_edits other_out other_lines other_kept same

pub returns-clause-written_again : goal.returns-clause-written_again
returns-clause-written_again c = λ options begun edits other_edits status other out lines kept other_out other_lines other_kept told same merge again.
    same-outputs options begun c.one_history.ensures.once c.one_result.ensures.either c.one_result.ensures.once c.one_reply.ensures.same c.one_opening.ensures.apart c.one_opening.ensures.same
    edits out lines kept told other_edits other_out other_lines other_kept same status other merge again
