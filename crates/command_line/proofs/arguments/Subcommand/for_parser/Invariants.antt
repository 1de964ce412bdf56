use Rattle.std.proofs.Common.{map, take}
use Rattle.std.specs.List.{fold}
use Rattle.clap.specs.Words.{new_app, with_rule}
use Rattle.command_line.specs.Arguments.{IsCommand, rule_in}
use Rattle.command_line.proofs.arguments.Subcommand.for_parser.Given as goal

abbrev pub invariant-loop-argument : goal.invariant-loop-argument
invariant-loop-argument l =
    IsCommand (fold with_rule (new_app l.self.name.now) (map rule_in (take l.argument-index l.self.arguments.now))) l.command
