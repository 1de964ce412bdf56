-- What holds of the memory in pages.
use Rattle.std.proofs.Common.{◌≡◌, ◌≢◌, ℕ, zero, suc, ◌+◌, ◌*◌, ◌/◌, ◌%◌, ◌<◌, ◌≤◌, Option, Some, None, IfSome, is_some, Bool, true, false, refl, ap, ◌∙◌, sym, subst, arith, if◌then◌else◌, inl, inr, ◌^◌, nat_lt}
use Rattle.std.proofs.lemmas.Bool.{false≢true, cases_lt}
use Rattle.std.proofs.lemmas.Bool.Decides.{nat_tests, eqb_tells}
use Rattle.std.specs.Option.{option_map}
use Rattle.rrv_model.specs.Memory.{Memory, no_memory, IsPaged, IsMemory, AlikeCells, FitsCell, page_count, pages_below, is_mapped, all_cells}
use Rattle.page_tables.specs.Contents.{PageValue}
use Rattle.guest_pages.specs.Space.{PageMap, page_at, memory_in, cell_in, IsPage, ArePages, AreEachPage, test_of}
use Rattle.guest_pages.proofs.Cells.{one_of_all, one_fails}
use Rattle.guest_pages.specs.declared.page.Access.{Access}
use Rattle.guest_pages.specs.declared.page.Access.TheVariants as accesses

-- ---- how many pages there are

-- a page is mapped exactly where it is among the pages
pub is_mapped_in : (pages : PageMap) (n : ℕ) → is_mapped (memory_in pages) n ≡ is_some (page_at pages n)
unfolding memory_in
is_mapped_in pages n =
    let place : n * 4096 / 4096 ≡ n = omega arith in
    rw place (by_page (page_at pages n)) where
      by_page : (p : Option PageValue) → is_some (option_map (cell_in (n * 4096 % 4096)) p) ≡ is_some p
      by_page None = refl
      by_page (Some p) = refl

pub pages_below_same : (m n : Memory) → ((q : ℕ) → is_mapped n q ≡ is_mapped m q) → (limit : ℕ) → pages_below limit n ≡ pages_below limit m
unfolding pages_below
pages_below_same m n same zero = refl
pages_below_same m n same (suc limit) = rw (same limit, pages_below_same m n same limit) refl

pub pages_below_add : (m n : Memory) (k : ℕ) → ((q : ℕ) → q ≢ k → is_mapped n q ≡ is_mapped m q) → is_mapped m k ≡ false →
    is_mapped n k ≡ true → (limit : ℕ) →
    pages_below limit n ≡ pages_below limit m + (if nat_lt k limit then 1 else 0)
unfolding pages_below
pages_below_add m n k same absent there zero = grind (arith, nat_tests)
pages_below_add m n k same absent there (suc limit) =
    let before : pages_below limit n ≡ pages_below limit m + (if nat_lt k limit then 1 else 0) =
    pages_below_add m n k same absent there limit in
    elim (eqb_tells limit k) [
      | inl w ↦
          let now : is_mapped n limit ≡ true = subst (λ q. is_mapped n q ≡ true) (sym w.1) there in
          let was : is_mapped m limit ≡ false = subst (λ q. is_mapped m q ≡ false) (sym w.1) absent in
          rw (before, now, was) (at_it w.1)
      | inr w ↦ rw (before, same limit w.1) (apart (is_mapped m limit) w.1)
    ] where
      at_it : limit ≡ k →
          pages_below limit m + (if nat_lt k limit then 1 else 0) + (if true then 1 else 0) ≡ pages_below limit m + (if false then 1 else 0)
          + (if nat_lt k (suc limit) then 1 else 0)
      at_it e = grind (arith, nat_tests)

      apart : (b : Bool) → limit ≢ k →
          pages_below limit m + (if nat_lt k limit then 1 else 0) + (if b then 1 else 0) ≡ pages_below limit m + (if b then 1 else 0)
          + (if nat_lt k (suc limit) then 1 else 0)
      apart b e = grind (arith, nat_tests)

-- ---- the memory in pages is a guest's

alike : (p : Option PageValue) (j k : ℕ) → AlikeCells (option_map (cell_in j) p) (option_map (cell_in k) p)
alike None j k = tt
alike (Some p) j k = refl

fits : (n : ℕ) (p : Option PageValue) (k : ℕ) → IfSome p (IsPage n) → FitsCell (option_map (cell_in k) p)
fits n None k h = tt
fits n (Some p) k h = (h.bytes k, h.readable)

pub none_outside : (pages : PageMap) → AreEachPage pages → (n : ℕ) → (1 ≤ n → n < 0x80000 → ⊥) → page_at pages n ≡ None
none_outside pages h n out = by_page (page_at pages n) (h n) where
  by_page : (p : Option PageValue) → IfSome p (IsPage n) → p ≡ None
  by_page None i = refl
  by_page (Some p) i = absurd (out i.low i.high)

is_paged : (pages : PageMap) → AreEachPage pages → IsPaged (memory_in pages)
unfolding memory_in
is_paged pages h = record {
  paged = λ a b e. subst (λ n. AlikeCells (memory_in pages a) (option_map (cell_in (b % 4096)) (page_at pages n))) e
      (alike (page_at pages (a / 4096)) (a % 4096) (b % 4096));
  low = λ a l. rw (none_outside pages h (a / 4096) (λ i j. omega arith)) refl;
  high = λ a l. rw (none_outside pages h (a / 4096) (λ i j. omega arith)) refl;
  cells = λ a. fits (a / 4096) (page_at pages (a / 4096)) (a % 4096) (h (a / 4096));
}

pub is_memory : (pages : PageMap) → ArePages pages → IsMemory (memory_in pages)
is_memory pages h = record { pages = is_paged pages h.each; limit = h.limit }

pub nothing_in_none : (pages : PageMap) → ((n : ℕ) → pages n ≡ None) → memory_in pages ≡ no_memory
unfolding memory_in
nothing_in_none pages none = λ i a. ap (option_map (cell_in (a % 4096))) (none (a / 4096)) i

-- where pages are there alike, as many are mapped
pub count_alike : (pages after : PageMap) → ((q : ℕ) → is_some (after q) ≡ is_some (pages q)) →
    page_count (memory_in after) ≡ page_count (memory_in pages)
count_alike pages after same =
    pages_below_same (memory_in pages) (memory_in after) (λ q. is_mapped_in after q ∙ same q ∙ sym (is_mapped_in pages q)) (2 ^ 20)

-- nothing is there from 2 ^ 31 on
pub none_high : (pages : PageMap) → AreEachPage pages → (a : ℕ) → 2 ^ 31 ≤ a → memory_in pages a ≡ None
none_high pages h a l = (is_paged pages h).high a (omega arith)

-- a range that is there lies below 2 ^ 32
pub present_low : (pages : PageMap) → AreEachPage pages → (a count : ℕ) → a < 2 ^ 32 → all_cells is_some (memory_in pages) a count ≡ true →
    a + count ≤ 2 ^ 32
present_low pages h a zero low there = omega arith
present_low pages h a (suc count) low there = elim (cases_lt (a + count) (2 ^ 31)) [
  | inl w ↦ omega arith
  | inr w ↦ absurd
      (false≢true (ap is_some (sym (none_high pages h (a + count) w))
      ∙ one_of_all is_some (memory_in pages) a (suc count) count there (omega arith)))
]

-- a range that is too long isn't there
pub too_long : (access : Access) (pages : PageMap) → AreEachPage pages → (a count : ℕ) → 2 ^ 32 ≤ count →
    all_cells (test_of access) (memory_in pages) a count ≡ false
too_long access pages h a count long =
    one_fails (test_of access) (memory_in pages) a count (2 ^ 31) (omega arith)
    (ap (test_of access) (none_high pages h (a + 2 ^ 31) (omega arith)) ∙ absent access) where
      absent : (access : Access) → test_of access None ≡ false
      absent accesses.Presence = refl
      absent accesses.Read = refl
      absent accesses.Write = refl
      absent accesses.Execute = refl
