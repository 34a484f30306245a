use Rattle.std.proofs.Common.{◌∷◌, [], Bool, sym, subst, refl}
use Rattle.pit_step.specs.Devices.{reading_of, writing_of}
use Rattle.pit_step.specs.Steps.{IsResultOf}
use Rattle.pit_command.specs.declared.commands.Command.TheVariants.{Check}
use Rattle.pit.specs.Runs.{checked_run, files_run}
use Rattle.pit.proofs.Views.{viewed}
use Rattle.pit.proofs.runs.run_check.Goals as goal

pub returns-then-words : goal.returns-then-words
unfolding files_run
returns-then-words g c =
    let left = g.D.File.Read.remaining in
    let model = reading_of (left c.in_ok-model.model.reader) (left c.check_all.new.model.reader) c.check_all.new.model.has_failed in
    let precedence = reading_of (left c.in_ok-model.precedence.reader) (left c.check_all.new.precedence.reader) c.check_all.new.precedence.has_failed in
    let solution = reading_of (left c.in_ok-model.solution.reader) (left c.check_all.new.schedule.reader) c.check_all.new.schedule.has_failed in
    let out = writing_of (g.W.Sink.contents c.args.out.now) (g.W.Sink.contents c.check_all.new.out) (g.W.Sink.has_failed c.check_all.new.out) in
    viewed (g.D.Disk.told c.args.disk.now) (Check c.args.words.now) out _ (model ∷ precedence ∷ solution ∷ []) _
    ((c.in_ok-model.ensures.first_open, c.in_ok-model.ensures.first), ((c.in_ok-model.ensures.second_open, c.in_ok-model.ensures.second), ((c.in_ok-model.ensures.third_open, c.in_ok-model.ensures.third), refl)))
    (subst (λ (all : Bool). IsResultOf (checked_run all model precedence solution out) tt c.check_all.result) (sym c.if-words.true) c.check_all.ensures)

pub returns : goal.returns
unfolding files_run
returns g c =
    let left = g.D.File.Read.remaining in
    let model = reading_of (left c.in_ok-model.model.reader) (left c.check.new.model.reader) c.check.new.model.has_failed in
    let precedence = reading_of (left c.in_ok-model.precedence.reader) (left c.check.new.precedence.reader) c.check.new.precedence.has_failed in
    let solution = reading_of (left c.in_ok-model.solution.reader) (left c.check.new.solution.reader) c.check.new.solution.has_failed in
    let out = writing_of (g.W.Sink.contents c.args.out.now) (g.W.Sink.contents c.check.new.out) (g.W.Sink.has_failed c.check.new.out) in
    viewed (g.D.Disk.told c.args.disk.now) (Check c.args.words.now) out _ (model ∷ precedence ∷ solution ∷ []) _
    ((c.in_ok-model.ensures.first_open, c.in_ok-model.ensures.first), ((c.in_ok-model.ensures.second_open, c.in_ok-model.ensures.second), ((c.in_ok-model.ensures.third_open, c.in_ok-model.ensures.third), refl)))
    (subst (λ (all : Bool). IsResultOf (checked_run all model precedence solution out) tt c.check.result) (sym c.if-words.false) c.check.ensures)
