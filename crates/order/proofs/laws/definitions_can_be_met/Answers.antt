use Rattle.order.proofs.Example.{store_races, word_is_ordered}
use Rattle.order.proofs.laws.definitions_can_be_met.Goals as goal

pub returns-clause-race : goal.returns-clause-race
returns-clause-race c = store_races

pub returns-clause-order : goal.returns-clause-order
returns-clause-order c = word_is_ordered
