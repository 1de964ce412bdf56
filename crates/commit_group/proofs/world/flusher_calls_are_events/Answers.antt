use Rattle.commit_group.proofs.WorldSteps.{flusher_calls}
use Rattle.commit_group.proofs.world.flusher_calls_are_events.Goals as goal

pub returns : goal.returns
returns g c = flusher_calls g.D.Disk.state
