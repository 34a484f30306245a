use Rattle.pit_cli.proofs.Refusals.{one-beginning, may_or_refused, never_refused, one_refusal}
use Rattle.pit_cli.proofs.OneOutcome.{given_written, stopped_written, failed_device, fault_unwritten, written_seen, refused_so, wanting_only, refuses, once}
use Rattle.pit_cli.proofs.outcome.one_outcome.Goals as goal

pub returns-clause-some : goal.returns-clause-some
returns-clause-some c = may_or_refused (one-beginning c.one_beginning.ensures.some c.one_beginning.ensures.same c.one_beginning.ensures.apart c.one_beginning.ensures.faults) c.one_opening.ensures.some c.one_opening.ensures.apart c.one_opening.ensures.same

pub returns-clause-apart : goal.returns-clause-apart
returns-clause-apart c = never_refused (one-beginning c.one_beginning.ensures.some c.one_beginning.ensures.same c.one_beginning.ensures.apart c.one_beginning.ensures.faults) c.one_opening.ensures.some c.one_opening.ensures.apart c.one_opening.ensures.same

pub returns-clause-same : goal.returns-clause-same
returns-clause-same c = one_refusal (one-beginning c.one_beginning.ensures.some c.one_beginning.ensures.same c.one_beginning.ensures.apart c.one_beginning.ensures.faults) c.one_opening.ensures.some c.one_opening.ensures.apart c.one_opening.ensures.same

pub returns-clause-refused : goal.returns-clause-refused
returns-clause-refused c =
    λ texts options out lines kept fault result are planned.
    refused_so out lines kept texts options (one-beginning c.one_beginning.ensures.some c.one_beginning.ensures.same c.one_beginning.ensures.apart c.one_beginning.ensures.faults) c.one_opening.ensures.some c.one_opening.ensures.apart c.one_opening.ensures.same fault are result planned

pub returns-clause-refuses : goal.returns-clause-refuses
returns-clause-refuses c = λ texts options out lines kept fault two fails. refuses out lines kept texts options fault two fails

pub returns-clause-wanting : goal.returns-clause-wanting
returns-clause-wanting c =
    λ texts options out lines kept fault may fails.
    wanting_only out lines kept texts options (one-beginning c.one_beginning.ensures.some c.one_beginning.ensures.same c.one_beginning.ensures.apart c.one_beginning.ensures.faults) c.one_opening.ensures.some c.one_opening.ensures.apart c.one_opening.ensures.same fault may fails

pub returns-clause-written : goal.returns-clause-written
returns-clause-written c = λ texts options out lines kept status gives. given_written out lines kept texts options status gives

pub returns-clause-stopped : goal.returns-clause-stopped
returns-clause-stopped c = λ texts options out lines kept fails. stopped_written out lines kept texts options fails

pub returns-clause-failed : goal.returns-clause-failed
returns-clause-failed c = λ texts options out lines kept fails. failed_device out lines kept texts options fails

pub returns-clause-unwritten : goal.returns-clause-unwritten
returns-clause-unwritten c = λ texts options out lines kept fault some also fails. fault_unwritten out lines kept texts options fault some also fails

pub returns-clause-seen : goal.returns-clause-seen
returns-clause-seen c = λ texts options out lines kept result tells is unwritten. written_seen out lines kept texts options result tells is unwritten

pub returns-clause-once : goal.returns-clause-once
returns-clause-once c =
    λ texts options out lines kept result other tells p q planned also.
    once out lines kept texts options (one-beginning c.one_beginning.ensures.some c.one_beginning.ensures.same c.one_beginning.ensures.apart c.one_beginning.ensures.faults) c.one_opening.ensures.some c.one_opening.ensures.apart c.one_opening.ensures.same result other tells p q planned also
