use Rattle.std.proofs.Common.{◌↔◌, ◌≡◌, ◌≤◌, length}
use Rattle.std.specs.List.{AllByRecursion}
use Rattle.checkpoint.specs.Fitting.{AreFit, HasBytes, next_number}
use Rattle.checkpoint.proofs.fitting.pages_fit.Given as goal

abbrev pub invariant-loop-left : goal.invariant-loop-left
invariant-loop-left l = record {
  fit : AreFit l.least l.left ↔ AreFit l.fn.least l.pages;
  next : next_number l.least l.left ≡ next_number l.fn.least l.pages;
  bytes : AllByRecursion HasBytes l.left → AllByRecursion HasBytes l.pages;
  low : l.least ≤ 4294967296;
}

abbrev pub decreases-loop-left : goal.decreases-loop-left
decreases-loop-left l = length l.left
