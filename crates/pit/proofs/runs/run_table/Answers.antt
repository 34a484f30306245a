use Rattle.std.proofs.Common.{◌∷◌, [], refl}
use Rattle.pit_step.specs.Devices.{reading_of, writing_of}
use Rattle.pit_command.specs.declared.commands.Command.TheVariants.{Table}
use Rattle.pit.specs.Runs.{files_run}
use Rattle.pit.proofs.Views.{viewed}
use Rattle.pit.proofs.runs.run_table.Goals as goal

pub returns : goal.returns
unfolding files_run
returns g c =
    let left = g.D.File.Read.remaining in
    let model = reading_of (left c.in_ok-model.model.reader) (left c.table.new.model.reader) c.table.new.model.has_failed in
    let schedule = reading_of (left c.in_ok-model.schedule.reader) (left c.table.new.schedule.reader) c.table.new.schedule.has_failed in
    viewed (g.D.Disk.told c.args.disk.now) (Table c.args.words.now)
    (writing_of (g.W.Sink.contents c.args.out.now) (g.W.Sink.contents c.table.new.out) (g.W.Sink.has_failed c.table.new.out)) _ (model ∷ schedule ∷ []) _
    ((c.in_ok-model.ensures.first_open, c.in_ok-model.ensures.first), ((c.in_ok-model.ensures.second_open, c.in_ok-model.ensures.second), refl)) c.table.ensures
