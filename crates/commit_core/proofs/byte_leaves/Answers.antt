use Rattle.commit_core.proofs.ExampleWorld.{starts, byte_leaves}
use Rattle.commit_core.proofs.byte_leaves.Goals as goal

pub returns-clause-start : goal.returns-clause-start
returns-clause-start c = starts

pub returns-clause-leaves : goal.returns-clause-leaves
returns-clause-leaves c = byte_leaves
