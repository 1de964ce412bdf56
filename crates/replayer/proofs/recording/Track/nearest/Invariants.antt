use Rattle.std.proofs.Common.{◌≡◌, ◌≤◌, length}
use Rattle.guest_calls.specs.Guest.{state_of}
use Rattle.replayer.specs.Kept.{last_place}
use Rattle.replayer.specs.Places.{BeginsAt, MarksLeft}
use Rattle.replayer.proofs.recording.Track.nearest.Given as goal

abbrev pub invariant-loop-left : goal.invariant-loop-left
invariant-loop-left l = record {
  begins : BeginsAt l.self.opening l.self.frames l.position;
  left : MarksLeft l.self.opening l.self.frames (state_of l.position.guest) l.left;
  last : last_place l.position.at l.left l.t ≡ last_place 0 l.self.marks l.t;
  low : l.position.at ≤ l.t;
}

abbrev pub decreases-loop-left : goal.decreases-loop-left
decreases-loop-left l = length l.left
