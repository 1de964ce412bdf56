use Rattle.std.proofs.Common.{ℕ, ◌≡◌, ◌-◌, ◌<◌, ◌≤◌, false}
use Rattle.page_tables.specs.Table.{entry_at}
use Rattle.page_tables.proofs.table.Table.next_or_end.Given as goal

abbrev pub invariant-loop-number : goal.invariant-loop-number
invariant-loop-number l = record {
  low : l.fn.least ≤ l.number;
  free : (n : ℕ) → l.fn.least ≤ n → n < l.number → (entry_at l.self n).mapped ≡ false;
}

abbrev pub decreases-loop-number : goal.decreases-loop-number
decreases-loop-number l = 0x80000 - l.number
