use Rattle.std.proofs.Common.{◌<◌}
use Rattle.reverse_step.proofs.searching.spans_before.Given as goal

abbrev pub invariant-loop-left : goal.invariant-loop-left
invariant-loop-left l = l.start < l.end

abbrev pub decreases-loop-left : goal.decreases-loop-left
decreases-loop-left l = l.left
