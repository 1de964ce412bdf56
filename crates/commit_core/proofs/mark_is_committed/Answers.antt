use Rattle.commit_core.proofs.ExampleMark.{mark_is_committed}
use Rattle.commit_core.proofs.mark_is_committed.Goals as goal

pub returns : goal.returns
returns c = mark_is_committed
