use Rattle.std.proofs.Common.{◌≡◌, map, take, false}
use Rattle.clap.specs.Simple.{app_of}
use Rattle.clap.specs.declared.builder.command.Command.TheViews.{out-Command as fields_of}
use Rattle.pit_command.specs.Command.{shape_for}
use Rattle.pit_command.specs.Command.{app_begun}
use Rattle.pit_command.proofs.command.command_with.Given as goal

abbrev pub invariant-loop-subcommand : goal.invariant-loop-subcommand
invariant-loop-subcommand l = record {
  app : app_of l.pit ≡ app_begun (map shape_for (take l.subcommand-index l.subcommands));
  local : (fields_of l.pit).has_globals ≡ false;
}
