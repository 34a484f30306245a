use Rattle.std.proofs.Common.{◌∷◌, [], refl}
use Rattle.pit_step.specs.Devices.{reading_of, writing_of}
use Rattle.pit_command.specs.declared.commands.Command.TheVariants.{Replay}
use Rattle.pit.specs.Runs.{files_run}
use Rattle.pit.proofs.Views.{viewed}
use Rattle.pit.proofs.runs.run_replay.Goals as goal

pub returns : goal.returns
unfolding files_run
returns g c =
    let left = g.D.File.Read.remaining in
    let model = reading_of (left c.in_ok-model.model.reader) (left c.replay.new.model.reader) c.replay.new.model.has_failed in
    let precedence = reading_of (left c.in_ok-model.precedence.reader) (left c.replay.new.precedence.reader) c.replay.new.precedence.has_failed in
    let history = reading_of (left c.in_ok-model.history.reader) (left c.replay.new.history.reader) c.replay.new.history.has_failed in
    viewed (g.D.Disk.told c.args.disk.now) (Replay c.args.words.now)
    (writing_of (g.W.Sink.contents c.args.out.now) (g.W.Sink.contents c.replay.new.out) (g.W.Sink.has_failed c.replay.new.out)) _ (model ∷ precedence ∷ history ∷ []) _
    ((c.in_ok-model.ensures.first_open, c.in_ok-model.ensures.first), ((c.in_ok-model.ensures.second_open, c.in_ok-model.ensures.second), ((c.in_ok-model.ensures.third_open, c.in_ok-model.ensures.third), refl))) c.replay.ensures
