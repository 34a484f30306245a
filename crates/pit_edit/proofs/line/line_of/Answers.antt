use Rattle.std.proofs.Common.{◌≡◌, ℕ, List, ◌++◌, ap, ◌∙◌}
use Rattle.std.proofs.lemmas.Result.{IfOk-weaker}
use Rattle.pit_edit.specs.EditText.{edit_line}
use Rattle.pit_edit.proofs.Texts.{given-ok}
use Rattle.pit_edit.proofs.line.line_of.Goals as goal

pub returns : goal.returns
returns g c =
    let line : List ℕ = edit_line c.args.number c.args.answer.entry c.args.changes c.args.left c.args.answer.cause c.args.answer.reply in
    IfOk-weaker c.gathered.result _ _
    (λ text is.
    let appended : c.write_edit_line-written.new.w.writer.items ≡ c.empty_text-text.result.writer.items ++ line = given-ok c.write_edit_line-written.result is.0 c.write_edit_line-written.ensures in
    is.1 ∙ (appended ∙ ap (λ (xs : List ℕ). xs ++ line) c.empty_text-text.ensures))
    c.gathered.ensures
