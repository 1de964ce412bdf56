use Rattle.order.proofs.Settled.{order_settled, race_settled}
use Rattle.order.proofs.laws.order_is_settled.Goals as goal

pub returns-clause-order : goal.returns-clause-order
returns-clause-order c = λ declared one other n i j same l h. order_settled declared one other n same i j l h

pub returns-clause-races : goal.returns-clause-races
returns-clause-races c = λ declared one other n i j b same l race. race_settled declared one other n same i j b l race
