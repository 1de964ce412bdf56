use Rattle.std.proofs.Common.{◌≡◌, length}
use Rattle.replayer.specs.Kept.{last_place}
use Rattle.replayer.proofs.recording.Track.checkpoint_before.Given as goal

abbrev pub invariant-loop-left : goal.invariant-loop-left
invariant-loop-left l = last_place l.last l.left l.t ≡ last_place 0 l.self.marks l.t

abbrev pub decreases-loop-left : goal.decreases-loop-left
decreases-loop-left l = length l.left
