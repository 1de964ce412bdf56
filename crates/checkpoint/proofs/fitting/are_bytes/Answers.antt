use Rattle.std.proofs.Common.{arith}
use Rattle.checkpoint.proofs.fitting.are_bytes.Goals as goal

pub returns : goal.returns
returns c k = let fits = c.type_inv.bytes k in omega (arith, fits)
