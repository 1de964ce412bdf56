use Rattle.std.proofs.Common.{ℕ, ◌≡◌, ◌-◌, ◌<◌, ◌≤◌, true}
use Rattle.slab.specs.Slab.{get, slab_len}
use Rattle.page_tables.specs.Table.{entry_at}
use Rattle.page_tables.specs.Sharing.{lowered_by}
use Rattle.page_tables.proofs.pool.lower_all.Given as goal

abbrev pub invariant-loop-number : goal.invariant-loop-number
invariant-loop-number l = record {
  high : l.number ≤ 0x80000;
  here : l.number < 0x80000 → (entry_at l.table l.number).mapped ≡ true;
  pages : (k : ℕ) → get l.pool k ≡ lowered_by (entry_at l.table) l.number k (get l.fn.pool k);
  len : slab_len l.pool ≤ slab_len l.fn.pool;
}

abbrev pub decreases-loop-number : goal.decreases-loop-number
decreases-loop-number l = 0x80000 - l.number
