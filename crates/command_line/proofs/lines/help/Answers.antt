use Rattle.command_line.proofs.Words.{help_alone, help_of}
use Rattle.command_line.proofs.lines.help.Goals as goal

pub asked_help-requires : goal.asked_help-requires
asked_help-requires c = help_of c.in-Some.name.now (c.is_command.ensures.0 c.if-is_command.true)

pub asked_help-requires-in_default : goal.asked_help-requires-in_default
asked_help-requires-in_default c = help_alone
