use Rattle.std.proofs.Common.{length}
use Rattle.std.specs.List.{AllByRecursion}
use Rattle.checkpoint.specs.Fitting.{Fits}
use Rattle.checkpoint.specs.Patches.{with_parts_set}
use Rattle.checkpoint.proofs.Patched.{LeavesToDo}
use Rattle.checkpoint.proofs.pages.set_parts.Given as goal

abbrev pub invariant-loop-left : goal.invariant-loop-left
invariant-loop-left l =
    LeavesToDo (with_parts_set l.left) (with_parts_set l.parts) l.fn.guest l.guest ×
    AllByRecursion (λ part. AllByRecursion Fits part.pages) l.left

abbrev pub decreases-loop-left : goal.decreases-loop-left
decreases-loop-left l = length l.left
