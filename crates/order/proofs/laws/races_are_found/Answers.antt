use Rattle.order.proofs.Found.{race_found}
use Rattle.order.proofs.laws.races_are_found.Goals as goal

pub returns : goal.returns
returns c = λ declared chain run i n b chains race. race_found declared chain run chains i n b race
