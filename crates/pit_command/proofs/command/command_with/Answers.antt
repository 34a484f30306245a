use Rattle.pit_command.proofs.Table.{subcommand_more}
use Rattle.pit_command.proofs.command.command_with.Goals as goal

pub loop-subcommand-preserved : goal.loop-subcommand-preserved
loop-subcommand-preserved c = record {
  app = subcommand_more _ _ c.args.subcommands.now c.loop-subcommand.subcommand-index _ c.loop-subcommand-test.true
      c.loop-subcommand.invariant.app (c.in_ok-pit.ensures.app c.loop-subcommand.invariant.local);
  local = c.in_ok-pit.ensures.local c.loop-subcommand.invariant.local;
}
