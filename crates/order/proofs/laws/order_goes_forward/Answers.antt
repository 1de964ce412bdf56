use Rattle.order.proofs.Paths.{forward}
use Rattle.order.proofs.laws.order_goes_forward.Goals as goal

pub returns : goal.returns
returns c = forward
