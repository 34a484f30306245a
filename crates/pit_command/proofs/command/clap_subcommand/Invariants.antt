use Rattle.std.proofs.Common.{map, take}
use Rattle.clap.specs.Simple.{new_shape}
use Rattle.pit_command.specs.Command.{IsSubcommand, rule_for}
use Rattle.pit_command.proofs.command.clap_subcommand.Given as goal

abbrev pub invariant-loop-argument : goal.invariant-loop-argument
invariant-loop-argument l =
    IsSubcommand (record (new_shape l.subcommand.name.now) { rules = map rule_for (take l.argument-index l.subcommand.arguments.now) }) l.command
