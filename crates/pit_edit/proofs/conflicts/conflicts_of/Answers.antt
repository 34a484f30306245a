use Rattle.std.proofs.Common.{◌≡◌, ℕ, List, ◌++◌, ap, ◌∙◌}
use Rattle.std.proofs.lemmas.Result.{IfOk-weaker}
use Rattle.pit_plan.specs.Standing.{period_of}
use Rattle.pit_edit.specs.EditText.{conflicts_text}
use Rattle.pit_edit.specs.Inside.Reviews.{writer_in}
use Rattle.pit_edit.proofs.Texts.{given-ok}
use Rattle.pit_edit.proofs.conflicts.conflicts_of.Goals as goal

pub returns : goal.returns
returns g c =
    let lines : List ℕ = conflicts_text c.args.edit.now (period_of c.args.plan.now) (writer_in c.args.plan.now c.args.makers.now) c.args.blocks.now in
    IfOk-weaker c.gathered.result _ _
    (λ text is.
    let appended : c.write_conflicts-written.new.w.writer.items ≡ c.empty_text-text.result.writer.items ++ lines = given-ok c.write_conflicts-written.result is.0 c.write_conflicts-written.ensures in
    is.1 ∙ (appended ∙ ap (λ (xs : List ℕ). xs ++ lines) c.empty_text-text.ensures))
    c.gathered.ensures
