use Rattle.recorder.proofs.RecorderWorlds.{refused_steps_are_no_events, steps_are_events}
use Rattle.recorder.proofs.world.steps_are_events.Goals as goal

pub returns-clause-steps : goal.returns-clause-steps
returns-clause-steps g c = steps_are_events g.O.Outside.gives

pub returns-clause-refused : goal.returns-clause-refused
returns-clause-refused g c = refused_steps_are_no_events g.O.Outside.gives
