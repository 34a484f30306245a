use Rattle.std.proofs.Common.{inr, refl}
use Rattle.std.proofs.lemmas.Result.{MatchResult-weaker}
use Rattle.pit_step.specs.Devices.{reading_of, known_if}
use Rattle.pit_opening.proofs.CallerLemmas.{begun-on}
use Rattle.pit_merge.proofs.input.begun_on.Goals as goal

pub returns-in-Ok-clause-read : goal.returns-in-Ok-clause-read
returns-in-Ok-clause-read g c =
    let read = known_if (λ old new. reading_of (g.S.Source.remaining old) (g.S.Source.remaining new) (g.S.Source.has_failed new)) c.args.start.now c.read.new.source in
    let gives = begun-on c.args.is_carried_on read c.args.pit c.in-Ok.beginning c.in-Ok.ensures.read in
    MatchResult-weaker c.opened_on.result c.opened_on.ensures
    (λ prepared is. ((c.args.pit, c.in-Ok.beginning), (refl, gives), is))
    (λ fault is. inr ((c.args.pit, c.in-Ok.beginning), (refl, gives), is))
