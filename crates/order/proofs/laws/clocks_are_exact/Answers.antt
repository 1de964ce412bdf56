use Rattle.order.proofs.Clocks.{exact}
use Rattle.order.proofs.laws.clocks_are_exact.Goals as goal

pub returns : goal.returns
returns c = λ declared chain run i n chains. exact declared chain run chains n i
