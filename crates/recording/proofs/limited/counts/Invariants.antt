use Rattle.std.proofs.Common.{◌≤◌, ◌-◌, length}
use Rattle.recording.proofs.limited.counts.Given as goal

abbrev pub invariant-loop-counts : goal.invariant-loop-counts
invariant-loop-counts l = length l.counts.items ≤ 16

abbrev pub decreases-loop-counts : goal.decreases-loop-counts
decreases-loop-counts l = 16 - length l.counts.items
