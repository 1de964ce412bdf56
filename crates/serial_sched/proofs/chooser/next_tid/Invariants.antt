use Rattle.std.proofs.Common.{ℕ, ◌<◌, ◌≤◌, get_or, Contains}
use Rattle.serial_sched.specs.Turns.{turn}
use Rattle.serial_sched.proofs.chooser.next_tid.Given as goal

abbrev pub invariant-loop-tid : goal.invariant-loop-tid
invariant-loop-tid l =
    Contains l.runnable l.next × ((k : ℕ) → k < l.tid-index → turn l.last l.next ≤ turn l.last (get_or l.runnable k 0))
