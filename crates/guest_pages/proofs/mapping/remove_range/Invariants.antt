use Rattle.std.proofs.Common.{◌≡◌, ℕ, ◌+◌, ◌-◌, ◌<◌, ◌≤◌, None}
use Rattle.rrv_model.specs.Memory.{page_count}
use Rattle.page_tables.specs.Contents.{contents_of}
use Rattle.guest_pages.specs.Live.{freed_in, live_of}
use Rattle.guest_pages.specs.Space.{memory_of, AreEachPage}
use Rattle.guest_pages.proofs.mapping.remove_range.Given as goal

abbrev pub invariant-loop-number : goal.invariant-loop-number
invariant-loop-number l = record {
  removed : (q : ℕ) → l.first ≤ q → q < l.number → (contents_of l.tables).pages q ≡ None;
  below : (q : ℕ) → q < l.first → (contents_of l.tables).pages q ≡ (contents_of l.initial.tables).pages q;
  above : (q : ℕ) → l.number ≤ q → (contents_of l.tables).pages q ≡ (contents_of l.initial.tables).pages q;
  each : AreEachPage (contents_of l.tables).pages;
  kept : (contents_of l.tables).kept ≡ (contents_of l.initial.tables).kept;
  count : page_count (memory_of l.tables) + l.gone ≡ page_count (memory_of l.initial.tables);
  few : l.gone ≤ l.number - l.first;
  counts : (q : ℕ) → l.number ≤ q → (contents_of l.tables).counts q ≡ (contents_of l.initial.tables).counts q;
  live : live_of l.tables + freed_in l.initial.tables l.first (l.number - l.first) ≡ live_of l.initial.tables;
}
