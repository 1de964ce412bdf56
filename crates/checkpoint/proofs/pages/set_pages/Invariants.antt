use Rattle.std.proofs.Common.{length}
use Rattle.std.specs.List.{AllByRecursion}
use Rattle.checkpoint.specs.Fitting.{Fits}
use Rattle.checkpoint.specs.Patches.{with_all_set}
use Rattle.checkpoint.proofs.Patched.{LeavesToDo}
use Rattle.checkpoint.proofs.pages.set_pages.Given as goal

abbrev pub invariant-loop-left : goal.invariant-loop-left
invariant-loop-left l =
    LeavesToDo (with_all_set l.left) (with_all_set l.pages) l.fn.guest l.guest × AllByRecursion Fits l.left

abbrev pub decreases-loop-left : goal.decreases-loop-left
decreases-loop-left l = length l.left
