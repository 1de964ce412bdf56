use Rattle.commit_group.proofs.WorldSteps.{recorder_calls}
use Rattle.commit_group.proofs.world.recorder_calls_are_events.Goals as goal

pub returns : goal.returns
returns c = recorder_calls
