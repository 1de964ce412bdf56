use Rattle.std.proofs.Common.{rules}
use Rattle.answers.proofs.Printing.{end_printed}
use Rattle.answers.proofs.replaying.print_end.Goals as goal

pub returns : goal.returns
returns g c = record {
  printed = end_printed c.print_line.result _ _ _ _ _ _ _ _ (search rules) (search rules) (search rules) c.print_line.ensures.printed;
}
