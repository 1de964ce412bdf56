use Rattle.std.proofs.Common.{◌≡◌, ℕ, ◌<◌, ◌≤◌, true, false}
use Rattle.page_tables.specs.Contents.{contents_of}
use Rattle.page_tables.specs.Changes.{IsOwn, is_listed}
use Rattle.guest_pages.proofs.mapping.list_not_own.Given as goal

abbrev pub invariant-loop-number : goal.invariant-loop-number
invariant-loop-number l = record {
  from : (q : ℕ) → is_listed l.numbers.items q ≡ true → l.first ≤ q;
  to : (q : ℕ) → is_listed l.numbers.items q ≡ true → q < l.number;
  others : (q : ℕ) → l.first ≤ q → q < l.number → is_listed l.numbers.items q ≡ false → IsOwn (contents_of l.tables) q;
}
