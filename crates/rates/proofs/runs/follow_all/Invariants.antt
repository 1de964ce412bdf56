use Rattle.std.proofs.Common.{take}
use Rattle.guest_calls.specs.Guest.{state_of}
use Rattle.rrv_model.specs.StateAt.{StateAtFrom, total}
use Rattle.rates.proofs.runs.follow_all.Given as goal

abbrev pub invariant-loop-frame : goal.invariant-loop-frame
invariant-loop-frame l =
    StateAtFrom (state_of l.fn.guest) (take l.frame-index l.frames) (total (take l.frame-index l.frames)) (state_of l.guest)
