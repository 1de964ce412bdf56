use Rattle.std.proofs.Common.{◌≡◌, length}
use Rattle.guest_threads.specs.ThreadParts.{tids_rise}
use Rattle.guest_threads.proofs.parts.tids_rise.Given as goal

abbrev pub invariant-loop-left : goal.invariant-loop-left
invariant-loop-left l = tids_rise l.left ≡ tids_rise l.threads

abbrev pub decreases-loop-left : goal.decreases-loop-left
decreases-loop-left l = length l.left
