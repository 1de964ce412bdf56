use Rattle.std.proofs.Common.{length}
use Rattle.std.specs.List.{AllByRecursion}
use Rattle.guest_calls.specs.Guest.{state_of}
use Rattle.guest_pages.specs.Snapshots.{DifferOn}
use Rattle.checkpoint.specs.Made.{kept_memory}
use Rattle.checkpoint.proofs.Whole.{HasListed}
use Rattle.checkpoint.proofs.making.make.Given as goal

abbrev pub invariant-loop-left : goal.invariant-loop-left
invariant-loop-left l = record {
  listed : HasListed (kept_memory l.guest l.base) (state_of l.guest).memory l.parts.items l.left;
  differ : AllByRecursion (λ n. DifferOn n (kept_memory l.guest l.base) (state_of l.guest).memory) l.left;
}

abbrev pub decreases-loop-left : goal.decreases-loop-left
decreases-loop-left l = length l.left
