use Rattle.std.proofs.Common.{◌≡◌, ℕ, ◌<◌, ◌≤◌, true}
use Rattle.page_tables.specs.Contents.{contents_of}
use Rattle.guest_pages.specs.Space.{page_at, page_passes, test_of}
use Rattle.guest_pages.proofs.address_space.Space.pages_pass.Given as goal

abbrev pub invariant-loop-number : goal.invariant-loop-number
invariant-loop-number l =
    (n : ℕ) → l.first ≤ n → n < l.number → page_passes (test_of l.access) (page_at (contents_of l.self).pages n) ≡ true
