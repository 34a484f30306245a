use Rattle.std.proofs.Common.{inr}
use Rattle.pit_step.specs.declared.input.Input.TheVariants.{Model, Precedence, Script}
use Rattle.pit_step.proofs.CallerLemmas.{handed_on}
use Rattle.pit_command.proofs.Lacking.{lacks-last}
use Rattle.pit_command.proofs.words.plan_words.Goals as goal

pub returns-in_err-scripts : goal.returns-in_err-scripts
returns-in_err-scripts c =
    let kind = c.in_err-scripts.field-0.0 in
    handed_on c.from_residual-in_err-scripts.result kind _ _ c.from_residual-in_err-scripts.ensures.0 c.from_residual-in_err-scripts.ensures.1
    (inr (c.in_ok-origin.ensures.free, lacks-last c.args.given.now Model Precedence (Script 1) kind c.in_err-scripts.ensures.err))
