use Rattle.std.proofs.Common.{◌≡◌, ◌≤◌, ◌-◌}
use Rattle.replayer.specs.Changes.{NoneIn}
use Rattle.reverse_step.proofs.searching.first_in.Given as goal

abbrev pub invariant-loop-alloc : goal.invariant-loop-alloc
invariant-loop-alloc g l = record {
  same : l.place.verified ≡ l.verified;
  none : NoneIn l.verified.opening l.verified.frames l.address l.start l.place.at;
  low : l.start ≤ l.place.at;
  high : l.place.at ≤ l.end;
}

abbrev pub decreases-loop-alloc : goal.decreases-loop-alloc
decreases-loop-alloc g l = l.end - l.place.at
