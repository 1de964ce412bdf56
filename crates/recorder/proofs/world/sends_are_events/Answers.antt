use Rattle.recorder.proofs.RecorderWorlds.{sends_are_events}
use Rattle.recorder.proofs.world.sends_are_events.Goals as goal

pub returns : goal.returns
returns c = sends_are_events
