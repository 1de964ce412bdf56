use Rattle.escapes.proofs.Printed.{printable_is_kept}
use Rattle.escapes.proofs.laws.printable_is_kept.Goals as goal

pub returns : goal.returns
returns c = printable_is_kept
