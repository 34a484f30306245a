use Rattle.std.proofs.Common.{◌≡◌, ℕ, List, Option, None, Ok, inl, inr, ap, sym, ◌∙◌, refl}
use Rattle.std.proofs.lemmas.Result.{err_from_is_err_and}
use Rattle.pit_model.specs.Pit.{with_preds}
use Rattle.pit_model.specs.Refusals.{preds_refusal}
use Rattle.pit_model.specs.declared.error.BuildError.{BuildError}
use Rattle.pit_text.specs.Left.{fields_left}
use Rattle.pit_text.specs.Precedence.{preds_line}
use Rattle.pit_text.proofs.Dues.{due-ok, line_stands, line_due}
use Rattle.pit_text.proofs.Wanting.{refused_preds}
use Rattle.pit_text.proofs.precedence.add_line.Goals as goal

pub returns-clause-result : goal.returns-clause-result
returns-clause-result g c =
    let block : ℕ = c.in_ok-block.block in
    let fact : ℕ × List ℕ = (block, c.listed_block.new.listed.items) in
    let line : preds_line (fields_left c.args.fields) ≡ Ok fact = c.in_ok-block.ensures in
    let asked : List ℕ → Option BuildError = λ listed. preds_refusal c.args.builder.now block listed in
    let none : asked c.listed_block.new.listed.items ≡ None = ap asked (sym c.as_slice.ensures.value) ∙ due-ok (asked c.as_slice.result.now) c.set_preds.result _ c.in_ok-set_preds.was c.set_preds.ensures.cause in (
      fact,
      line_stands (preds_line (fields_left c.args.fields)) fact (λ f. preds_refusal c.args.builder.now f.0 f.1) (λ f. preds_refusal c.args.builder.now f.0 f.1) line refl none,
      c.in_ok-set_preds.ensures.ok ∙ ap (λ (listed : List ℕ). with_preds c.args.builder.now c.in_ok-block.block listed) c.as_slice.ensures.value,
    )

pub returns-in_err-set_preds-clause-result : goal.returns-in_err-set_preds-clause-result
returns-in_err-set_preds-clause-result g c =
    let block : ℕ = c.in_ok-block.block in
    let p = err_from_is_err_and c.from_residual-in_err-set_preds.result c.from_residual-in_err-set_preds.ensures.1 in
    rw p.1
    (elim (line_due (preds_line (fields_left c.args.fields)) (block, c.as_slice.result.now) (λ f. preds_refusal c.args.builder.now f.0 f.1) (λ f. f) c.set_preds.result c.in_err-set_preds.field-0.0 p.0
    (c.in_ok-block.ensures ∙ ap (λ (listed : List ℕ). Ok (block, listed)) (sym c.as_slice.ensures.value)) c.in_err-set_preds.was (refused_preds c.args.builder.now block c.as_slice.result.now) c.set_preds.ensures.cause p.2) [
      | inl wanting ↦ inl wanting.0
      | inr wrong ↦ inr wrong
    ])
