use Rattle.std.proofs.Common.{◌≡◌, ◌<◌, ℕ, List, true, length}
use Rattle.std.specs.List.{All}
use Rattle.slab.specs.Slab.{get}
use Rattle.page_tables.specs.Table.{entry_at, has_leaf}
use Rattle.page_tables.specs.Changes.{IsRoomyFor}
use Rattle.page_tables.specs.Sharing.{AreShared, pages_in, counts_in, contents_in}
use Rattle.page_tables.specs.NewPages.{AreCopies}
use Rattle.page_tables.proofs.NewPages.{AreNearer}
use Rattle.page_tables.proofs.new_pages.install_all.Given as goal

abbrev pub invariant-loop-page : goal.invariant-loop-page
invariant-loop-page l = record {
  shared : AreShared (get l.pool) (entry_at l.table) l.kept.items;
  roomy : IsRoomyFor l.pool (length l.pages.items);
  low : All (λ p. p.number < 0x80000) l.pages.items;
  leaves : All (λ p. has_leaf l.table p.number ≡ true) l.pages.items;
  owned : (numbers : List ℕ) →
      AreCopies numbers (pages_in (get l.fn.pool) (entry_at l.fn.table)) (counts_in (get l.fn.pool) (entry_at l.fn.table)) l.fn.pages.items
      → AreCopies numbers (pages_in (get l.pool) (entry_at l.table)) (counts_in (get l.pool) (entry_at l.table)) l.pages.items
      × AreNearer numbers (contents_in l.fn.pool l.fn.table l.kept.items) (contents_in l.pool l.table l.kept.items);
}

abbrev pub decreases-loop-page : goal.decreases-loop-page
decreases-loop-page l = length l.pages.items
