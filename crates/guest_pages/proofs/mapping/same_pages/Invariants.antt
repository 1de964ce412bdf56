use Rattle.std.proofs.Common.{ℕ, ◌<◌, ◌≤◌, ◌-◌}
use Rattle.page_tables.specs.Contents.{contents_of}
use Rattle.guest_pages.specs.Mapping.{SameAt}
use Rattle.guest_pages.proofs.mapping.same_pages.Given as goal

abbrev pub invariant-loop-number : goal.invariant-loop-number
invariant-loop-number l =
    (l.number ≤ 0x80000) × ((q : ℕ) → q < l.number → SameAt (contents_of l.tables).pages (contents_of l.others).pages q)

abbrev pub decreases-loop-number : goal.decreases-loop-number
decreases-loop-number l = 0x80000 - l.number
