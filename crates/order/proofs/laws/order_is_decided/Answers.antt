use Rattle.order.proofs.Clocks.{order_decided}
use Rattle.order.proofs.laws.order_is_decided.Goals as goal

pub returns : goal.returns
returns c = order_decided
