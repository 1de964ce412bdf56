use Rattle.std.proofs.Common.{◌≡◌, ◌≤◌, ◌+◌, drop, length}
use Rattle.guest_calls.specs.Guest.{state_of}
use Rattle.replayer.specs.Places.{GoesOn}
use Rattle.replayer.proofs.recording.Track.run_to.Given as goal

abbrev pub invariant-loop-left : goal.invariant-loop-left
invariant-loop-left l = record {
  on : GoesOn l.self.opening l.self.frames l.position.at (state_of l.position.guest) l.left;
  rest : drop l.position.frames l.self.frames ≡ l.left;
  inside : l.position.frames ≤ length l.self.frames;
  low : l.position.at ≤ l.t;
  between : l.position.steps ≡ 0;
  ran : l.position.guest.ran + l.fn.position.at ≤ l.fn.position.guest.ran + l.position.at;
}

abbrev pub decreases-loop-left : goal.decreases-loop-left
decreases-loop-left l = length l.left
