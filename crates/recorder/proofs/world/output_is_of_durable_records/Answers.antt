use Rattle.recorder.proofs.RecorderWorlds.{output_is_committed}
use Rattle.recorder.proofs.Released.{output_is_durable, settled_has_put_all}
use Rattle.recorder.proofs.world.output_is_of_durable_records.Goals as goal

pub returns-clause-durable : goal.returns-clause-durable
returns-clause-durable c = output_is_durable

pub returns-clause-committed : goal.returns-clause-committed
returns-clause-committed c = output_is_committed

pub returns-clause-settled : goal.returns-clause-settled
returns-clause-settled c = settled_has_put_all
