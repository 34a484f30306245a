use Rattle.std.proofs.Common.{◌≡◌, ℕ, List, ◌++◌, ap, ◌∙◌}
use Rattle.std.proofs.lemmas.Result.{IfOk-weaker}
use Rattle.pit_diff.specs.DiffText.{diff_text}
use Rattle.pit_diff.proofs.Lines.{given-ok}
use Rattle.pit_diff.proofs.diff_text.text_of.Goals as goal

pub returns : goal.returns
returns g c =
    IfOk-weaker c.gathered.result _ _
    (λ text is before after stands also.
    let appended : c.write_diff-written.new.w.writer.items ≡ c.empty_text-text.result.writer.items ++ diff_text c.args.old.now.pit before after =
    given-ok c.write_diff-written.result is.0 c.write_diff-written.ensures before after stands also in
    is.1 ∙ (appended ∙ ap (λ (xs : List ℕ). xs ++ diff_text c.args.old.now.pit before after) c.empty_text-text.ensures))
    c.gathered.ensures
