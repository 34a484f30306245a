use Rattle.std.proofs.Common.{sym, ◌∙◌, arith}
use Rattle.pit_text.specs.Left.{fields_left}
use Rattle.pit_text.specs.Precedence.{wholes_of, preds_line}
use Rattle.pit_text.proofs.Unlisted.{judged_out, judged_again}
use Rattle.pit_text.proofs.precedence.judge.Goals as goal

pub returns-then-is_out : goal.returns-then-is_out
returns-then-is_out g c =
    judged_out c.args.builder.now c.in_ok-block.block c.blocks-2.result c.in_ok-is_out.is_out (wholes_of (fields_left c.in_ok-block.rest)) (preds_line (fields_left c.args.fields)) c.in_ok-block.ensures
    c.blocks-2.ensures (sym c.has_from.ensures ∙ c.in_ok-is_out.was) c.if-is_out.true

pub returns-then-has_preds : goal.returns-then-has_preds
returns-then-has_preds g c =
    judged_again c.args.builder.now c.in_ok-block.block c.blocks-2.result c.in_ok-is_out.is_out (wholes_of (fields_left c.in_ok-block.rest)) (preds_line (fields_left c.args.fields)) c.in_ok-block.ensures
    c.blocks-2.ensures (sym c.has_from.ensures ∙ c.in_ok-is_out.was) c.if-is_out.false (omega (arith, c.if-block-blocks.false, c.blocks-3.ensures, c.blocks-2.ensures)) (sym c.has_preds.ensures ∙ c.if-has_preds.true)
