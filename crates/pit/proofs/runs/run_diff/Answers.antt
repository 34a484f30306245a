use Rattle.std.proofs.Common.{◌∷◌, [], refl}
use Rattle.pit_step.specs.Devices.{reading_of, writing_of}
use Rattle.pit_command.specs.declared.commands.Command.TheVariants.{Diff}
use Rattle.pit.specs.Runs.{files_run}
use Rattle.pit.proofs.Views.{viewed}
use Rattle.pit.proofs.runs.run_diff.Goals as goal

pub returns : goal.returns
unfolding files_run
returns g c =
    let left = g.D.File.Read.remaining in
    let model = reading_of (left c.in_ok-model.model.reader) (left c.diff.new.model.reader) c.diff.new.model.has_failed in
    let old = reading_of (left c.in_ok-model.old.reader) (left c.diff.new.old.reader) c.diff.new.old.has_failed in
    let new = reading_of (left c.in_ok-model.new.reader) (left c.diff.new.new.reader) c.diff.new.new.has_failed in
    viewed (g.D.Disk.told c.args.disk.now) (Diff c.args.words.now)
    (writing_of (g.W.Sink.contents c.args.out.now) (g.W.Sink.contents c.diff.new.out) (g.W.Sink.has_failed c.diff.new.out)) _ (model ∷ old ∷ new ∷ []) _
    ((c.in_ok-model.ensures.first_open, c.in_ok-model.ensures.first), ((c.in_ok-model.ensures.second_open, c.in_ok-model.ensures.second), ((c.in_ok-model.ensures.third_open, c.in_ok-model.ensures.third), refl))) c.diff.ensures
