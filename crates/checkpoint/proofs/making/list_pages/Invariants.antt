use Rattle.std.proofs.Common.{◌≡◌, ◌++◌, length, map}
use Rattle.std.specs.List.{AllByRecursion}
use Rattle.guest_calls.specs.Guest.{state_of}
use Rattle.guest_pages.specs.Snapshots.{DifferOn}
use Rattle.checkpoint.specs.Made.{IsMade, kept_memory}
use Rattle.checkpoint.proofs.making.list_pages.Given as goal

abbrev pub invariant-loop-left : goal.invariant-loop-left
invariant-loop-left l = record {
  split : map (λ p. p.number) l.pages.items ++ l.left ≡ l.fn.numbers;
  made : AllByRecursion (IsMade (kept_memory l.guest l.base) (state_of l.guest).memory) l.pages.items;
  differ : AllByRecursion (λ n. DifferOn n (kept_memory l.guest l.base) (state_of l.guest).memory) l.left;
}

abbrev pub decreases-loop-left : goal.decreases-loop-left
decreases-loop-left l = length l.left
