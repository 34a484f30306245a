use Rattle.std.proofs.Common.{rules}
use Rattle.pit_command.proofs.Table.{argument_more}
use Rattle.pit_command.proofs.command.clap_subcommand.Goals as goal

pub loop-argument-preserved : goal.loop-argument-preserved
loop-argument-preserved c = (
  argument_more _ _ _ c.args.subcommand.now.arguments.now c.loop-argument.argument-index _ _ c.loop-argument-test.true
      c.loop-argument.invariant.0 c.clap_argument.ensures.rule (c.in_ok-command.ensures.shape c.clap_argument.ensures.local),
  search rules,
)
