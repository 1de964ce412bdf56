use Rattle.std.proofs.Common.{length}
use Rattle.checkpoint.specs.Patches.{with_all_cleared}
use Rattle.checkpoint.proofs.Patched.{LeavesToDo}
use Rattle.checkpoint.proofs.pages.clear_pages.Given as goal

abbrev pub invariant-loop-left : goal.invariant-loop-left
invariant-loop-left l = LeavesToDo (with_all_cleared l.left) (with_all_cleared l.pages) l.fn.guest l.guest

abbrev pub decreases-loop-left : goal.decreases-loop-left
decreases-loop-left l = length l.left
