-- Pages that are made a space's own.
use Rattle.std.proofs.Common.{◌≡◌, ◌∙◌, ℕ, zero, suc, ◌+◌, ◌-◌, ◌*◌, ◌/◌, ◌%◌, ◌<◌, ◌≤◌, max, Bool, true, false, List, Option, Some, None, IsSome, IfSome, is_some, refl, ap, sym, subst, arith}
use Rattle.std.proofs.lemmas.Bool.{false≢true}
use Rattle.std.specs.Option.{option_map}
use Rattle.rrv_model.specs.Memory.{page_count, all_cells}
use Rattle.page_tables.specs.Contents.{PageValue, Contents, contents_of}
use Rattle.page_tables.specs.Changes.{is_listed, page_or_zeros, IsOwn, AreOwned}
use Rattle.guest_pages.specs.Space.{SpaceValue, PageMap, memory_in, cell_in, IsPage, AreEachPage, ArePages, IsSpace, present, memory_of, CanFill}
use Rattle.guest_pages.specs.Mapping.{AreOwnIn}
use Rattle.guest_pages.proofs.Cells.{one_of_all}

-- where all of them are there, the pages are as they were
pub owned_same : (numbers : List ℕ) (old new : Contents) → AreOwned numbers old new →
    ((n : ℕ) → is_listed numbers n ≡ true → IsSome (old.pages n)) → new.pages ≡ old.pages
owned_same numbers old new h there = λ i n. at n (is_listed numbers n) refl i where
  filled : (o : Option PageValue) → IsSome o → Some (page_or_zeros o) ≡ o
  filled None e = absurd (false≢true e)
  filled (Some p) e = refl

  at : (n : ℕ) (b : Bool) → is_listed numbers n ≡ b → new.pages n ≡ old.pages n
  at n true e = h.here n e ∙ filled (old.pages n) (there n e)
  at n false e = h.pages n e

pub owned_space : (s t : SpaceValue) (mapped : ℕ) → IsSpace s mapped → (contents_of t).pages ≡ (contents_of s).pages →
    (contents_of t).kept ≡ (contents_of s).kept → IsSpace t mapped
owned_space s t mapped h pages kept = record {
  pages = subst ArePages (sym pages) h.pages;
  kept = subst (λ (k : ℕ → Option PageMap). (i : ℕ) → IfSome (k i) AreEachPage) (sym kept) h.kept;
  count = h.count ∙ ap (λ (p : PageMap). page_count (memory_in p)) (sym pages);
}

-- what was listed is its own now, and the others were
pub all_own_in : (s t : SpaceValue) (numbers : List ℕ) (first count : ℕ) → AreOwned numbers (contents_of s) (contents_of t)
    → ((q : ℕ) → first ≤ q → q < first + count → is_listed numbers q ≡ false → IsOwn (contents_of s) q) → AreOwnIn t first count
all_own_in s t numbers first count h others q from to = by_test (is_listed numbers q) refl where
  by_test : (b : Bool) → is_listed numbers q ≡ b → IsOwn (contents_of t) q
  by_test true e = h.own q e
  by_test false e = h.counts q e ∙ others q from to e

-- each page of a range that is there is there
pub in_range : (pages : PageMap) (a count n : ℕ) → 1 ≤ count → present (memory_in pages) a count ≡ true → a / 4096 ≤ n →
    n * 4096 < a + count → IsSome (pages n)
unfolding memory_in
in_range pages a count n some there low high =
    let k : ℕ = max a (n * 4096) - a in
    let place : (a + k) / 4096 ≡ n = omega arith in
    let within : k < count = omega arith in
    let here : is_some (memory_in pages (a + k)) ≡ true = one_of_all is_some (memory_in pages) a count k there within in
    subst (λ (q : ℕ). IsSome (pages q)) place (by_page (pages ((a + k) / 4096)) here) where
      by_page : (o : Option PageValue) → is_some (option_map (cell_in ((a + (max a (n * 4096) - a)) % 4096)) o) ≡ true → IsSome o
      by_page None e = absurd (false≢true e)
      by_page (Some p) e = refl

pub low_page : (pages : PageMap) (n : ℕ) → AreEachPage pages → IsSome (pages n) → n < 0x80000
low_page pages n h there = by_page (pages n) (h n) there where
  by_page : (o : Option PageValue) → IfSome o (IsPage n) → IsSome o → n < 0x80000
  by_page None i e = absurd (false≢true e)
  by_page (Some p) i e = i.high

-- where each page is a space's own, what is there can be filled
pub own_alone : (s : SpaceValue) (a count : ℕ) → present (memory_of s) a count ≡ true →
    ((n : ℕ) → IsSome ((contents_of s).pages n) → IsOwn (contents_of s) n) → CanFill s a count
own_alone s a count there own = (
  there,
  λ k l. own ((a + k) / 4096)
      (in_range (contents_of s).pages a count ((a + k) / 4096) (omega (arith, l)) there (omega arith) (omega (arith, l))),
)

-- nothing can be filled
pub none_to_fill : (s : SpaceValue) (a count : ℕ) → count ≡ 0 → CanFill s a count
unfolding all_cells
none_to_fill s a zero e = (refl, λ k l. absurd (omega (arith, l)))
none_to_fill s a (suc count) e = absurd (omega (arith, e))
