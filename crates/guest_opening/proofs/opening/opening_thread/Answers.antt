use Rattle.rrv_model.proofs.OpeningState.{is_first_thread}
use Rattle.guest_opening.proofs.opening.opening_thread.Goals as goal

pub returns-clause-fits : goal.returns-clause-fits
returns-clause-fits c = λ version. is_first_thread c.entry.result c.stack_pointer.result c.entry.type_inv c.stack_pointer.type_inv
