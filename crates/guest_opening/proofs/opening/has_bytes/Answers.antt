use Rattle.std.proofs.Common.{arith}
use Rattle.rrv_model.proofs.OpeningState.{all_bytes}
use Rattle.guest_opening.proofs.opening.has_bytes.Goals as goal

pub returns : goal.returns
returns c = all_bytes c.args.bytes.now (λ i. let fits = c.type_inv.bytes i in omega (arith, fits))
