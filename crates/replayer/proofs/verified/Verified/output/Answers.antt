use Rattle.replayer.proofs.Kept.{kept_by}
use Rattle.replayer.proofs.verified.Verified.output.Goals as goal

pub output-requires : goal.output-requires
output-requires g c = kept_by c.self.inside.track c.self.inside.len c.self.invariant
