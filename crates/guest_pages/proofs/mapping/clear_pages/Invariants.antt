use Rattle.std.proofs.Common.{◌≡◌, ℕ, ◌+◌, ◌<◌, ◌≤◌, Some}
use Rattle.page_tables.specs.Contents.{contents_of}
use Rattle.page_tables.specs.Changes.{IsOwn}
use Rattle.guest_pages.specs.Live.{live_of}
use Rattle.guest_pages.specs.Mapping.{clear_page}
use Rattle.guest_pages.proofs.mapping.clear_pages.Given as goal

abbrev pub invariant-loop-number : goal.invariant-loop-number
invariant-loop-number l = record {
  cleared : (q : ℕ) → l.first ≤ q → q < l.number → (contents_of l.tables).pages q ≡ Some (clear_page l.permissions);
  below : (q : ℕ) → q < l.first → (contents_of l.tables).pages q ≡ (contents_of l.initial.tables).pages q;
  above : (q : ℕ) → l.number ≤ q → (contents_of l.tables).pages q ≡ (contents_of l.initial.tables).pages q;
  own : (q : ℕ) → l.number ≤ q → q < l.first + l.count → IsOwn (contents_of l.tables) q;
  kept : (contents_of l.tables).kept ≡ (contents_of l.initial.tables).kept;
  live : live_of l.tables ≡ live_of l.initial.tables;
}
