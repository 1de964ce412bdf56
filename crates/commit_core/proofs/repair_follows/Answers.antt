use Rattle.commit_core.proofs.ExampleRepair.{is_repaired}
use Rattle.commit_core.proofs.repair_follows.Goals as goal

pub returns : goal.returns
returns c = is_repaired
