use Rattle.std.proofs.Common.{◌≡◌, length, ◌↔◌}
use Rattle.rrv_model.specs.State.{State}
use Rattle.rrv_model.specs.StateAt.{StateAtFrom, total}
use Rattle.guest_calls.specs.Guest.{state_of}
use Rattle.replayer.specs.Puts.{PutsSoFar}
use Rattle.replayer.proofs.recording.Track.output.Given as goal

abbrev pub invariant-loop-left : goal.invariant-loop-left
invariant-loop-left g l = record {
  put : g.S.Sink.tells l.fn.sink →
      PutsSoFar l.self.opening l.self.frames (state_of l.guest) l.left (g.S.Sink.taken l.fn.sink) (g.S.Sink.taken l.sink);
  ends : (last : State) × StateAtFrom (state_of l.guest) l.left (total l.left) last;
  counted : g.S.Sink.faults l.sink ≡ g.S.Sink.faults l.fn.sink;
  tells : g.S.Sink.tells l.sink ↔ g.S.Sink.tells l.fn.sink;
}

abbrev pub decreases-loop-left : goal.decreases-loop-left
decreases-loop-left g l = length l.left
