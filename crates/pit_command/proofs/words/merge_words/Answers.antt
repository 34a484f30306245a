use Rattle.std.proofs.Common.{inr}
use Rattle.pit_step.specs.declared.input.Input.TheVariants.{Model, Precedence, Edit}
use Rattle.pit_step.proofs.CallerLemmas.{handed_on}
use Rattle.pit_command.proofs.Lacking.{no-edits}
use Rattle.pit_command.proofs.words.merge_words.Goals as goal

pub returns-in_err-edits : goal.returns-in_err-edits
returns-in_err-edits c =
    let kind = c.in_err-edits.field-0.0 in
    handed_on c.from_residual-in_err-edits.result kind _ _ c.from_residual-in_err-edits.ensures.0 c.from_residual-in_err-edits.ensures.1
    (inr (c.in_ok-origin.ensures.free, no-edits c.args.given.now Model Precedence (Edit 1) kind c.in_err-edits.ensures.err))
