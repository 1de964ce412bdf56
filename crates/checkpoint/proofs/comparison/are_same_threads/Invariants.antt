use Rattle.std.proofs.Common.{◌≡◌, take}
use Rattle.checkpoint.proofs.comparison.are_same_threads.Given as goal

abbrev pub invariant-loop-i : goal.invariant-loop-i
invariant-loop-i l = take l.i l.found ≡ take l.i l.told
