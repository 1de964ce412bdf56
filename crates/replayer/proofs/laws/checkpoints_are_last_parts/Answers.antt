use Rattle.replayer.proofs.Last.{checkpoints_are_last_parts}
use Rattle.replayer.proofs.laws.checkpoints_are_last_parts.Goals as goal

pub returns : goal.returns
returns c = checkpoints_are_last_parts
