use Rattle.changes.proofs.Texts.{output_refused}
use Rattle.changes.proofs.printing.print_change.Goals as goal

pub returns-clause-refused : goal.returns-clause-refused
returns-clause-refused g c = output_refused c.print_state.result c.print_state.ensures.refused
