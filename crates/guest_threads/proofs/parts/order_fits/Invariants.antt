use Rattle.std.proofs.Common.{◌≡◌, length}
use Rattle.guest_threads.specs.ThreadParts.{order_fits}
use Rattle.guest_threads.proofs.parts.order_fits.Given as goal

abbrev pub invariant-loop-left : goal.invariant-loop-left
invariant-loop-left l = order_fits l.threads l.left ≡ order_fits l.threads l.waiting

abbrev pub decreases-loop-left : goal.decreases-loop-left
decreases-loop-left l = length l.left
