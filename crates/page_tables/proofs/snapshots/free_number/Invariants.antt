use Rattle.std.proofs.Common.{◌≤◌, length}
use Rattle.page_tables.proofs.snapshots.free_number.Given as goal

abbrev pub invariant-loop-number : goal.invariant-loop-number
invariant-loop-number l = l.number ≤ length l.kept.items
