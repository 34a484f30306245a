use Rattle.std.proofs.Common.{◌≡◌, ℕ, ℤ, None, ap, sym, ◌∙◌, refl, to_z, of_z, w64, rules}
use Rattle.std.proofs.lemmas.Int.{to_z-of_z}
use Rattle.std.proofs.lemmas.Result.{err_from_is_err_and}
use Rattle.pit_model.specs.Pit.{with_place}
use Rattle.pit_model.specs.Refusals.{place_refusal}
use Rattle.pit_text.specs.Left.{fields_left}
use Rattle.pit_text.specs.Blocks.{place_line}
use Rattle.pit_text.proofs.Dues.{due-ok, line_stands, line_due}
use Rattle.pit_text.proofs.Wanting.{refused_place}
use Rattle.pit_text.proofs.blocks.judge_line.Goals as goal

pub returns : goal.returns
returns g c =
    let fact : ℕ × (ℤ × ℤ × ℤ) = (c.in_ok-block.block, (c.in_ok-block.x, c.in_ok-block.y, c.in_ok-block.z)) in
    let none : place_refusal c.args.builder.now c.in_ok-block.block ≡ None = due-ok (place_refusal c.args.builder.now c.in_ok-block.block) c.set_place.result _ c.in_ok-set_place.was c.set_place.ensures.cause in (
      fact,
      line_stands (place_line (fields_left c.args.fields)) fact (λ f. place_refusal c.args.builder.now f.0) (λ f. place_refusal c.args.builder.now f.0) (sym c.place.ensures ∙ c.in_ok-block.was) refl none,
      c.in_ok-set_place.ensures.ok
          ∙ ap (λ (z : ℤ). with_place c.args.builder.now c.in_ok-block.block (z, to_z w64 (of_z w64 c.in_ok-block.y), to_z w64 (of_z w64 c.in_ok-block.z))) (to_z-of_z w64 c.in_ok-block.x (search rules))
          ∙ ap (λ (z : ℤ). with_place c.args.builder.now c.in_ok-block.block (c.in_ok-block.x, z, to_z w64 (of_z w64 c.in_ok-block.z))) (to_z-of_z w64 c.in_ok-block.y (search rules))
          ∙ ap (λ (z : ℤ). with_place c.args.builder.now c.in_ok-block.block (c.in_ok-block.x, c.in_ok-block.y, z)) (to_z-of_z w64 c.in_ok-block.z (search rules)),
    )

pub returns-in_err-set_place : goal.returns-in_err-set_place
returns-in_err-set_place g c =
    let fact : ℕ × (ℤ × ℤ × ℤ) = (c.in_ok-block.block, (c.in_ok-block.x, c.in_ok-block.y, c.in_ok-block.z)) in
    let p = err_from_is_err_and c.from_residual-in_err-set_place.result c.from_residual-in_err-set_place.ensures.1 in
    rw p.1
    (line_due (place_line (fields_left c.args.fields)) fact (λ f. place_refusal c.args.builder.now f.0) (λ f. f) c.set_place.result c.in_err-set_place.field-0.0 p.0
    (sym c.place.ensures ∙ c.in_ok-block.was) c.in_err-set_place.was (refused_place c.args.builder.now c.in_ok-block.block) c.set_place.ensures.cause p.2)
