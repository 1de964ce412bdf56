use Rattle.std.proofs.Common.{◌≡◌, ◌≤◌, ◌-◌, ◌++◌, length, take, drop, ◌↔◌}
use Rattle.rrv_model.specs.Output.{to_descriptor}
use Rattle.recorder.proofs.outputs.put_from.Given as goal

abbrev pub invariant-loop-at : goal.invariant-loop-at
invariant-loop-at g l = record {
  range : (l.offset ≤ l.at) × (l.at ≤ length l.bytes);
  put : g.S.Sink.tells l.fn.sink →
      g.S.Sink.taken l.sink ≡ g.S.Sink.taken l.fn.sink ++ to_descriptor l.descriptor (take (l.at - l.offset) (drop l.offset l.bytes));
  counted : g.S.Sink.faults l.sink ≡ g.S.Sink.faults l.fn.sink;
  tells : g.S.Sink.tells l.sink ↔ g.S.Sink.tells l.fn.sink;
}

abbrev pub decreases-loop-at : goal.decreases-loop-at
decreases-loop-at g l = length l.bytes - l.at
