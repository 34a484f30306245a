use Rattle.std.proofs.Common.{◌∷◌, [], refl}
use Rattle.pit_step.specs.Devices.{reading_of, writing_of}
use Rattle.pit_command.specs.declared.commands.Command.TheVariants.{Value}
use Rattle.pit.specs.Runs.{files_run}
use Rattle.pit.proofs.Views.{viewed}
use Rattle.pit.proofs.runs.run_value.Goals as goal

pub returns : goal.returns
unfolding files_run
returns g c =
    let left = g.D.File.Read.remaining in
    let model = reading_of (left c.in_ok-model.model.reader) (left c.value.new.model.reader) c.value.new.model.has_failed in
    let solution = reading_of (left c.in_ok-model.solution.reader) (left c.value.new.solution.reader) c.value.new.solution.has_failed in
    viewed (g.D.Disk.told c.args.disk.now) (Value c.args.words.now)
    (writing_of (g.W.Sink.contents c.args.out.now) (g.W.Sink.contents c.value.new.out) (g.W.Sink.has_failed c.value.new.out)) _ (model ∷ solution ∷ []) _
    ((c.in_ok-model.ensures.first_open, c.in_ok-model.ensures.first), ((c.in_ok-model.ensures.second_open, c.in_ok-model.ensures.second), refl)) c.value.ensures
