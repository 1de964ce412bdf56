use Rattle.std.proofs.Common.{◌≡◌, ◌-◌, ◌≤◌, length}
use Rattle.page_tables.specs.Contents.{contents_of}
use Rattle.guest_pages.specs.Mapping.{missing}
use Rattle.guest_pages.proofs.mapping.count_missing.Given as goal

abbrev pub invariant-loop-number : goal.invariant-loop-number
invariant-loop-number l = record {
  count : l.missing ≡ length (missing (contents_of l.tables).pages l.first (l.number - l.first));
  few : l.missing ≤ l.number - l.first;
}
