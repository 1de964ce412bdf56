use Rattle.order.proofs.Clocks.{threads}
use Rattle.order.proofs.laws.threads_are_chains.Goals as goal

pub returns : goal.returns
returns c = threads
