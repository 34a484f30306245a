use Rattle.std.proofs.Common.{◌∷◌, [], refl}
use Rattle.pit_step.specs.Devices.{reading_of, writing_of}
use Rattle.pit_command.specs.declared.commands.Command.TheVariants.{Log}
use Rattle.pit.specs.Runs.{files_run}
use Rattle.pit.proofs.Views.{viewed}
use Rattle.pit.proofs.runs.run_log.Goals as goal

pub returns : goal.returns
unfolding files_run
returns g c =
    let left = g.D.File.Read.remaining in
    let model = reading_of (left c.in_ok-model.model.reader) (left c.log.new.model.reader) c.log.new.model.has_failed in
    let precedence = reading_of (left c.in_ok-model.precedence.reader) (left c.log.new.precedence.reader) c.log.new.precedence.has_failed in
    let history = reading_of (left c.in_ok-model.history.reader) (left c.log.new.history.reader) c.log.new.history.has_failed in
    viewed (g.D.Disk.told c.args.disk.now) (Log c.args.words.now)
    (writing_of (g.W.Sink.contents c.args.out.now) (g.W.Sink.contents c.log.new.out) (g.W.Sink.has_failed c.log.new.out)) _ (model ∷ precedence ∷ history ∷ []) _
    ((c.in_ok-model.ensures.first_open, c.in_ok-model.ensures.first), ((c.in_ok-model.ensures.second_open, c.in_ok-model.ensures.second), ((c.in_ok-model.ensures.third_open, c.in_ok-model.ensures.third), refl))) c.log.ensures
