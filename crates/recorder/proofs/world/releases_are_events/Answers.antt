use Rattle.recorder.proofs.RecorderWorlds.{releases_are_events}
use Rattle.recorder.proofs.world.releases_are_events.Goals as goal

pub returns : goal.returns
returns g c = releases_are_events g.S.Sink.tells g.S.Sink.taken
