-- How many pages there are.
use Rattle.std.proofs.Common.{◌≡◌, ◌∙◌, ℕ, zero, suc, ◌+◌, ◌-◌, ◌/◌, ◌%◌, ◌<◌, ◌≤◌, ◌^◌, Bool, true, false, if◌then◌else◌, List, Option, Some, None, IsSome, is_some, refl, ap, sym, arith}
use Rattle.std.proofs.lemmas.Bool.{false≢true}
use Rattle.std.proofs.lemmas.Bool.Decides.{nat_tests}
use Rattle.rrv_model.specs.Memory.{Memory, pages_below, page_count, is_mapped}
use Rattle.page_tables.specs.Contents.{PageValue, contents_of, page_total, sum_below}
use Rattle.page_tables.specs.Changes.{IsOwn, IsWritten, IsPlaced, added, added_at, freed, is_listed}
use Rattle.page_tables.proofs.Counting.{sum_none, sum_more, sum_past, sum_range}
use Rattle.guest_pages.specs.Space.{SpaceValue, PageMap, memory_in, AreEachPage}
use Rattle.guest_pages.specs.Live.{live_of, added_for, freed_for, added_in, freed_in, pages_across, added_across}
use Rattle.guest_pages.proofs.Facts.{is_mapped_in, none_outside}

abbrev one_if : Bool → ℕ
one_if b = if b then 1 else 0

-- ---- mapped pages

pages_more : (n : ℕ) (m : Memory) → pages_below (suc n) m ≡ pages_below n m + one_if (is_mapped m n)
unfolding pages_below
pages_more n m = refl

pages_none : (m : Memory) → pages_below 0 m ≡ 0
unfolding pages_below
pages_none m = refl

below_is : (pages : PageMap) (n : ℕ) → pages_below n (memory_in pages) ≡ sum_below n (λ q. one_if (is_some (pages q)))
below_is pages zero = pages_none (memory_in pages) ∙ sym (sum_none (λ q. one_if (is_some (pages q))))
below_is pages (suc n) =
    let here : one_if (is_mapped (memory_in pages) n) ≡ one_if (is_some (pages n)) = ap one_if (is_mapped_in pages n) in
    omega (arith, pages_more n (memory_in pages), sum_more n (λ q. one_if (is_some (pages q))), below_is pages n, here)

-- the numbers that have a page are the pages that are mapped
pub total_is : (pages : PageMap) → AreEachPage pages → page_total pages ≡ page_count (memory_in pages)
total_is pages h =
    sym (below_is pages (2 ^ 20)
    ∙ sum_past 0x80000 (2 ^ 20) (λ q. one_if (is_some (pages q))) (omega arith)
    (λ q l. ap (λ (o : Option PageValue). one_if (is_some o)) (none_outside pages h q (λ low high. omega (arith, l, high)))))

-- ---- pages that come and go

-- a page of its own adds none
pub own_adds : (s : SpaceValue) (n : ℕ) → IsOwn (contents_of s) n → added_for s n ≡ 0
own_adds s n own = ap added own

-- a number with no page lacks one, and has none to go
none_counted : (page : Option PageValue) (count : Option ℕ) → (IsSome count → IsSome page) → page ≡ None → count ≡ None
none_counted page None there none = refl
none_counted page (Some k) there none = absurd (false≢true (sym (ap is_some none) ∙ there refl))

pub absent_adds : (s : SpaceValue) (n : ℕ) → (IsSome ((contents_of s).counts n) → IsSome ((contents_of s).pages n)) →
    (contents_of s).pages n ≡ None → added_for s n ≡ 1
absent_adds s n there none = ap added (none_counted ((contents_of s).pages n) ((contents_of s).counts n) there none)

pub absent_frees : (s : SpaceValue) (n : ℕ) → (IsSome ((contents_of s).counts n) → IsSome ((contents_of s).pages n)) →
    (contents_of s).pages n ≡ None → freed_for s n ≡ 0
absent_frees s n there none = ap freed (none_counted ((contents_of s).pages n) ((contents_of s).counts n) there none)

-- one number more of a range goes
pub freed_more : (s : SpaceValue) (first n : ℕ) → first ≤ n →
    freed_in s first (n + 1 - first) ≡ freed_in s first (n - first) + freed_for s n
freed_more s first n low =
    let next : n + 1 - first ≡ suc (n - first) = omega (arith, low) in
    let place : first + (n - first) ≡ n = omega (arith, low) in
    ap (λ (k : ℕ). freed_in s first k) next ∙ sum_more (n - first) (λ k. freed_for s (first + k))
    ∙ ap (λ (q : ℕ). freed_in s first (n - first) + freed_for s q) place

pub freed_none : (s : SpaceValue) (first : ℕ) → freed_in s first (first - first) ≡ 0
freed_none s first = let none : first - first ≡ 0 =
    omega arith in ap (λ (k : ℕ). freed_in s first k) none ∙ sum_none (λ k. freed_for s (first + k))

-- just those of a range are listed that aren't the space's own
module _ (s : SpaceValue) (numbers : List ℕ) (first count : ℕ) (from : (q : ℕ) → is_listed numbers q ≡ true → first ≤ q)
    (to : (q : ℕ) → is_listed numbers q ≡ true → q < first + count)
    (others : (q : ℕ) → first ≤ q → q < first + count → is_listed numbers q ≡ false → IsOwn (contents_of s) q) where
  unlisted : (q : ℕ) → (is_listed numbers q ≡ true → ⊥) → (if is_listed numbers q then added ((contents_of s).counts q) else 0) ≡ 0
  unlisted q out = by_test (is_listed numbers q) refl where
    by_test : (b : Bool) → is_listed numbers q ≡ b → (if b then added ((contents_of s).counts q) else 0) ≡ 0
    by_test true e = absurd (out e)
    by_test false e = refl

  inside : (k : ℕ) → k < count →
      (if is_listed numbers (first + k) then added ((contents_of s).counts (first + k)) else 0) ≡ added_for s (first + k)
  inside k l = by_test (is_listed numbers (first + k)) refl where
    by_test : (b : Bool) → is_listed numbers (first + k) ≡ b →
        (if b then added ((contents_of s).counts (first + k)) else 0) ≡ added_for s (first + k)
    by_test true e = refl
    by_test false e = sym (own_adds s (first + k) (others (first + k) (omega arith) (omega (arith, l)) e))

  pub listed_adds : first + count ≤ 0x80000 → added_at (is_listed numbers) (contents_of s).counts ≡ added_in s first count
  listed_adds fits =
      sum_range 0x80000 first count (λ q. if is_listed numbers q then added ((contents_of s).counts q) else 0)
      (λ k. added_for s (first + k)) fits
      (λ q l. unlisted q (λ e. let low : first ≤ q = from q e in omega (arith, l, low)))
      (λ q l. unlisted q (λ e. let high : q < first + count = to q e in omega (arith, l, high))) inside

-- ---- stores

added_one : (s : SpaceValue) (first : ℕ) → added_in s first 1 ≡ added_for s first
added_one s first =
    let place : first + 0 ≡ first = omega arith in
    let here : added_for s (first + 0) ≡ added_for s first = ap (λ (q : ℕ). added_for s q) place in
    omega (arith, sum_more 0 (λ k. added_for s (first + k)), sum_none (λ k. added_for s (first + k)), here)

one_page : (a count : ℕ) → 1 ≤ count → a % 4096 + count ≤ 4096 → pages_across a count ≡ 1
one_page a count some fits =
    let same : (a + (count - 1)) / 4096 ≡ a / 4096 = omega arith in
    grind (arith, nat_tests)

-- a store within a page adds what its number lacks
pub put_adds : (s t : SpaceValue) (a count : ℕ) (bs : List ℕ) → IsWritten (a / 4096) (a % 4096) bs (contents_of s) (contents_of t) →
    1 ≤ count → a % 4096 + count ≤ 4096 → live_of t ≡ live_of s + added_across s a count
put_adds s t a count bs w some fits =
    let across : added_across s a count ≡ added_for s (a / 4096) =
    ap (λ (k : ℕ). added_in s (a / 4096) k) (one_page a count some fits) ∙ added_one s (a / 4096) in
    omega (arith, w.live, across)

-- and into a page of its own none
pub written_live : (s t : SpaceValue) (n at : ℕ) (bs : List ℕ) → IsWritten n at bs (contents_of s) (contents_of t) →
    IsOwn (contents_of s) n → live_of t ≡ live_of s
written_live s t n at bs w own = omega (arith, w.live, own_adds s n own)

pub cleared_live : (s t : SpaceValue) (n : ℕ) (page : PageValue) → IsPlaced n page (contents_of s) (contents_of t) →
    IsOwn (contents_of s) n → live_of t ≡ live_of s
cleared_live s t n page p own = omega (arith, p.live, own_adds s n own)

-- bytes that are none lie in no page
pub none_across : (s : SpaceValue) (a count : ℕ) → count ≡ 0 → added_across s a count ≡ 0
none_across s a zero e = sum_none (λ k. added_for s (a / 4096 + k))
none_across s a (suc count) e = absurd (omega (arith, e))

-- the pages from the first to the last of some bytes
pub some_across : (a count : ℕ) → 1 ≤ count → pages_across a count ≡ (a + count - 1) / 4096 - a / 4096 + 1
some_across a count some =
    let end : a + (count - 1) ≡ a + count - 1 = omega (arith, some) in
    rw end (grind (arith, nat_tests))
