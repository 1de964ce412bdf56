use Rattle.command_line.specs.Commands.{bare_program}
use Rattle.command_line.proofs.Words.{simple_and_free}
use Rattle.command_line.proofs.commands.program.Goals as goal

pub returns-clause-commands : goal.returns-clause-commands
returns-clause-commands c = c.with_subcommands.ensures bare_program c.in_ok-bare_program.ensures

pub returns-clause-exact : goal.returns-clause-exact
returns-clause-exact c = simple_and_free
