use Rattle.std.proofs.Common.{◌↔◌, ◌≤◌, length}
use Rattle.std.specs.List.{AllByRecursion}
use Rattle.checkpoint.specs.Fitting.{PartsFit, HasBytes}
use Rattle.checkpoint.proofs.fitting.parts_fit.Given as goal

abbrev pub invariant-loop-left : goal.invariant-loop-left
invariant-loop-left l = record {
  fit : PartsFit l.least l.left ↔ PartsFit 0 l.parts;
  bytes : AllByRecursion (λ part. AllByRecursion HasBytes part.pages) l.left →
      AllByRecursion (λ part. AllByRecursion HasBytes part.pages) l.parts;
  low : l.least ≤ 4294967296;
}

abbrev pub decreases-loop-left : goal.decreases-loop-left
decreases-loop-left l = length l.left
