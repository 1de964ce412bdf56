use Rattle.std.proofs.Common.{◌≡◌, ◌+◌, take}
use Rattle.rrv_model.specs.StateAt.{total}
use Rattle.asking.proofs.places.thread_after.Given as goal

abbrev pub invariant-loop-frame : goal.invariant-loop-frame
invariant-loop-frame l = l.left + total (take l.frame-index l.frames) ≡ l.t
