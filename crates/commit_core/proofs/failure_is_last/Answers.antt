use Rattle.commit_core.proofs.FailedCalls.{last_call}
use Rattle.commit_core.proofs.failure_is_last.Goals as goal

pub returns : goal.returns
returns c = last_call
