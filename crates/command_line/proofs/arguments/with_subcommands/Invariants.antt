use Rattle.std.proofs.Common.{map, take}
use Rattle.std.specs.List.{fold}
use Rattle.clap.specs.Words.{App, with_subcommand}
use Rattle.command_line.specs.Arguments.{IsCommand, shape_in}
use Rattle.command_line.proofs.arguments.with_subcommands.Given as goal

abbrev pub invariant-loop-subcommand : goal.invariant-loop-subcommand
invariant-loop-subcommand l = (app : App) → IsCommand app l.fn.command
    → IsCommand (fold with_subcommand app (map shape_in (take l.subcommand-index l.subcommands))) l.command
