use Rattle.std.proofs.Common.{◌≡◌, [], take}
use Rattle.slab.specs.Slab.{get}
use Rattle.page_tables.specs.Table.{entry_at}
use Rattle.page_tables.specs.Sharing.{pages_in, counts_in}
use Rattle.page_tables.specs.NewPages.{AreUnshared, AreCopies}
use Rattle.page_tables.proofs.new_pages.copy_each.Given as goal

abbrev pub invariant-loop-number : goal.invariant-loop-number
invariant-loop-number l = record {
  copies : AreCopies (take l.number-index l.numbers) (pages_in (get l.pool) (entry_at l.table)) (counts_in (get l.pool) (entry_at l.table))
      l.copies.items;
  none : AreUnshared (take l.number-index l.numbers) (counts_in (get l.pool) (entry_at l.table)) → l.copies.items ≡ [];
}
