use Rattle.std.proofs.Common.{◌≡◌, ℕ, ◌-◌, None}
use Rattle.page_tables.specs.Contents.{contents_of}
use Rattle.guest_pages.proofs.Copies.{Copied}
use Rattle.guest_pages.proofs.copying.copy_pages.Given as goal

abbrev pub invariant-loop-number : goal.invariant-loop-number
invariant-loop-number l = record {
  copied : Copied (contents_of l.from).pages (contents_of l.copy).pages l.least;
  kept : (i : ℕ) → (contents_of l.copy).kept i ≡ None;
}

abbrev pub decreases-loop-number : goal.decreases-loop-number
decreases-loop-number l = 0x80000 - l.least
