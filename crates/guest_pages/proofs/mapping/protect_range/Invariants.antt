use Rattle.std.proofs.Common.{◌≡◌, ℕ, ◌<◌, ◌≤◌}
use Rattle.std.specs.Option.{option_map}
use Rattle.page_tables.specs.Contents.{contents_of}
use Rattle.page_tables.specs.Changes.{with_permissions}
use Rattle.guest_pages.specs.Live.{live_of}
use Rattle.guest_pages.proofs.mapping.protect_range.Given as goal

abbrev pub invariant-loop-number : goal.invariant-loop-number
invariant-loop-number l = record {
  protected : (q : ℕ) → l.first ≤ q → q < l.number →
      (contents_of l.tables).pages q ≡ option_map (with_permissions l.permissions) ((contents_of l.initial.tables).pages q);
  below : (q : ℕ) → q < l.first → (contents_of l.tables).pages q ≡ (contents_of l.initial.tables).pages q;
  above : (q : ℕ) → l.number ≤ q → (contents_of l.tables).pages q ≡ (contents_of l.initial.tables).pages q;
  kept : (contents_of l.tables).kept ≡ (contents_of l.initial.tables).kept;
  live : live_of l.tables ≡ live_of l.initial.tables;
}
