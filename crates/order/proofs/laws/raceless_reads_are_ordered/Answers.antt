use Rattle.order.proofs.Clocks.{raceless_acts, raceless_ordered}
use Rattle.order.proofs.laws.raceless_reads_are_ordered.Goals as goal

pub returns-clause-reads : goal.returns-clause-reads
returns-clause-reads c = raceless_ordered

pub returns-clause-acts : goal.returns-clause-acts
returns-clause-acts c = raceless_acts
