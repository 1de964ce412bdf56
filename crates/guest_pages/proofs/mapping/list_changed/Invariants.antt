use Rattle.std.proofs.Common.{◌≤◌, ◌-◌, IsSomeAnd}
use Rattle.page_tables.specs.Contents.{contents_of}
use Rattle.guest_pages.specs.Mapping.{SameAt, ListsOthers}
use Rattle.guest_pages.proofs.mapping.list_changed.Given as goal

abbrev pub invariant-loop-number : goal.invariant-loop-number
invariant-loop-number l = (l.number ≤ 0x80000)
    × IsSomeAnd ((contents_of l.tables).kept l.snapshot)
    (λ pages. ListsOthers (SameAt pages (contents_of l.tables).pages) l.number l.numbers.items)

abbrev pub decreases-loop-number : goal.decreases-loop-number
decreases-loop-number l = 0x80000 - l.number
