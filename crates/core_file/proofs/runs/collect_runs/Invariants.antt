use Rattle.std.proofs.Common.{◌≡◌, ◌-◌, ◌≤◌, reverse}
use Rattle.guest_pages.specs.Space.{memory_of}
use Rattle.core_file.specs.Runs.{runs_below}
use Rattle.core_file.proofs.runs.collect_runs.Given as goal

abbrev pub invariant-loop-number : goal.invariant-loop-number
invariant-loop-number l = record {
  low : l.least ≤ 0x80000;
  runs : l.runs.items ≡ reverse (runs_below l.least (memory_of l.fn.space));
}

abbrev pub decreases-loop-number : goal.decreases-loop-number
decreases-loop-number l = 0x80000 - l.least
