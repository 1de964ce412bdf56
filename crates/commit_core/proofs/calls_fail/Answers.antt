use Rattle.commit_core.proofs.ExampleWorld.{starts}
use Rattle.commit_core.proofs.ExampleFailures.{calls_fail}
use Rattle.commit_core.proofs.calls_fail.Goals as goal

pub returns-clause-start : goal.returns-clause-start
returns-clause-start c = starts

pub returns-clause-fails : goal.returns-clause-fails
returns-clause-fails c = calls_fail
