use Rattle.std.proofs.Common.{subst, sym}
use Rattle.replayer.specs.Kept.{verified_of}
use Rattle.replayer.specs.Verified.{IsLastCheckpoint, VerifiedValue}
use Rattle.replayer.proofs.Last.{is_last_checkpoint}
use Rattle.replayer.proofs.verified.Verified.checkpoint_before.Goals as goal

pub returns : goal.returns
returns c =
    let s = c.self.inside in
    subst (λ (v : VerifiedValue). IsLastCheckpoint v c.args.t c.checkpoint_before.result) c.self.view_is
    (subst (λ i. IsLastCheckpoint (verified_of s.track s.len) c.args.t i) (sym c.checkpoint_before.ensures)
    (is_last_checkpoint s.track s.len c.args.t c.self.invariant))
