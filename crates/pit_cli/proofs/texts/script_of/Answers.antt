use Rattle.std.proofs.Common.{◌≡◌, rules}
use Rattle.pit_script.specs.declared.error.ScriptCause.TheVariants.{NoMemory}
use Rattle.pit_cli.proofs.Wanting.{script-wants}
use Rattle.pit_cli.proofs.texts.script_of.Goals as goal

pub returns-in-Err-clause-result : goal.returns-in-Err-clause-result
returns-in-Err-clause-result g c =
    let is : c.in-Err.error.cause ≡ NoMemory = search rules in script-wants c.args.benches.now c.args.text.now c.in-Err.error is c.in-Err.ensures.result
