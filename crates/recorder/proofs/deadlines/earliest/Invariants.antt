use Rattle.std.proofs.Common.{◌≡◌, Some, length}
use Rattle.recorder.specs.Deadlines.{earliest, earliest_from}
use Rattle.recorder.proofs.deadlines.earliest.Given as goal

abbrev pub invariant-loop-left : goal.invariant-loop-left
invariant-loop-left l = earliest l.fn.deadlines ≡ Some (earliest_from l.found l.left)

abbrev pub decreases-loop-left : goal.decreases-loop-left
decreases-loop-left l = length l.left
