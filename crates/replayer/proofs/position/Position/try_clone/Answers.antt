use Rattle.std.proofs.Common.{refl}
use Rattle.replayer.proofs.Onward.{stands_same}
use Rattle.replayer.proofs.position.Position.try_clone.Goals as goal

pub returns-clause-stands : goal.returns-clause-stands
returns-clause-stands c = λ o frames stands. stands_same o frames c.args.self.now _ c.in_ok-try_clone.ensures.state refl refl refl stands
