use Rattle.recorder.proofs.Settles.{settles_are_events}
use Rattle.recorder.proofs.world.settles_are_events.Goals as goal

pub returns : goal.returns
returns c = settles_are_events
