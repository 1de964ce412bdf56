use Rattle.std.proofs.Common.{◌≡◌, ◌+◌, ◌-◌, length}
use Rattle.recorder.specs.Owed.{Releases}
use Rattle.recorder.proofs.outputs.Outputs.release.Given as goal

abbrev pub invariant-loop-self : goal.invariant-loop-self
invariant-loop-self g l = record {
  released : Releases g.S.Sink.tells g.S.Sink.taken l.seen l.fn.self l.self l.fn.sink l.sink l.taken;
  counted : g.S.Sink.faults l.sink ≡ g.S.Sink.faults l.fn.sink;
}

abbrev pub decreases-loop-self : goal.decreases-loop-self
decreases-loop-self g l = length l.self.owed + (l.seen - l.self.released)
