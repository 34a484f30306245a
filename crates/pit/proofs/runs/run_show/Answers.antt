use Rattle.std.proofs.Common.{◌∷◌, [], refl}
use Rattle.pit_step.specs.Devices.{reading_of, writing_of}
use Rattle.pit_command.specs.declared.commands.Command.TheVariants.{Show}
use Rattle.pit.specs.Runs.{files_run}
use Rattle.pit.proofs.Views.{viewed}
use Rattle.pit.proofs.runs.run_show.Goals as goal

pub returns : goal.returns
unfolding files_run
returns g c =
    let left = g.D.File.Read.remaining in
    let model = reading_of (left c.in_ok-model.model.reader) (left c.show.new.model.reader) c.show.new.model.has_failed in
    let schedule = reading_of (left c.in_ok-model.schedule.reader) (left c.show.new.schedule.reader) c.show.new.schedule.has_failed in
    viewed (g.D.Disk.told c.args.disk.now) (Show c.args.words.now)
    (writing_of (g.W.Sink.contents c.args.out.now) (g.W.Sink.contents c.show.new.out) (g.W.Sink.has_failed c.show.new.out)) _ (model ∷ schedule ∷ []) _
    ((c.in_ok-model.ensures.first_open, c.in_ok-model.ensures.first), ((c.in_ok-model.ensures.second_open, c.in_ok-model.ensures.second), refl)) c.show.ensures
