use Rattle.std.proofs.Common.{◌↔◌, length}
use Rattle.std.specs.List.{AllByRecursion}
use Rattle.guest_threads.specs.ThreadParts.{Fits}
use Rattle.guest_threads.proofs.parts.threads_fit.Given as goal

abbrev pub invariant-loop-left : goal.invariant-loop-left
invariant-loop-left l =
    AllByRecursion (Fits l.version l.waiting l.next_tid) l.left ↔ AllByRecursion (Fits l.version l.waiting l.next_tid) l.threads

abbrev pub decreases-loop-left : goal.decreases-loop-left
decreases-loop-left l = length l.left
