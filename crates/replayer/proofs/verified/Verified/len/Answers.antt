use Rattle.std.proofs.Common.{subst}
use Rattle.replayer.specs.Verified.{IsVerified}
use Rattle.replayer.proofs.Last.{is_verified}
use Rattle.replayer.proofs.verified.Verified.len.Goals as goal

pub returns-clause-verified : goal.returns-clause-verified
returns-clause-verified c = subst IsVerified c.self.view_is (is_verified c.self.inside.track c.self.inside.len c.self.invariant)
