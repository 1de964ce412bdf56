-- The pages once one is put among them.
use Rattle.std.proofs.Common.{◌≡◌, ◌≢◌, ℕ, ◌+◌, ◌*◌, ◌/◌, ◌%◌, ◌<◌, ◌==◌, ◌^◌, length, Option, Some, None, IfSome, true, false, is_some, nat_lt, slice_index, refl, ap, ◌∙◌, sym, subst, arith, if◌then◌else◌, inl, inr}
use Rattle.std.proofs.lemmas.Bool.Decides.{nat_tests, eqb_tells}
use Rattle.std.specs.Option.{option_map}
use Rattle.rrv_model.specs.Memory.{Memory, page_count, is_mapped}
use Rattle.page_tables.specs.Contents.{PageValue}
use Rattle.guest_pages.specs.declared.page.PageView.{PageView}
use Rattle.guest_pages.specs.Space.{PageMap, page_at, memory_in, cell_in, IsPage, AreEachPage}
use Rattle.guest_pages.specs.WholePages.{cell_of, with_page, page_of, MayHave}
use Rattle.guest_pages.proofs.Facts.{is_mapped_in, pages_below_same, pages_below_add}

-- ---- what is mapped

others_mapped : (n : ℕ) (page : Option PageView) (m : Memory) (q : ℕ) → q ≢ n → is_mapped (with_page n page m) q ≡ is_mapped m q
others_mapped n page m q apart =
    let place : q * 4096 / 4096 ≡ q = omega arith in
    let other : (n == q) ≡ false = grind (arith, nat_tests) in
    rw (place, other) refl

here_mapped : (n : ℕ) (v : PageView) (m : Memory) → is_mapped (with_page n (Some v) m) n ≡ true
here_mapped n v m =
    let place : n * 4096 / 4096 ≡ n = omega arith in
    let same : (n == n) ≡ true = grind (arith, nat_tests) in
    rw (place, same) refl

-- a page where none was is one more
pub page_count_put : (pages : PageMap) (v : PageView) (n : ℕ) → n < 0x80000 → page_at pages n ≡ None →
    page_count (with_page n (Some v) (memory_in pages)) ≡ page_count (memory_in pages) + 1
page_count_put pages v n high absent =
    let m : Memory = memory_in pages in
    let one : page_count (with_page n (Some v) m) ≡ page_count m + (if nat_lt n (2 ^ 20) then 1 else 0) =
    pages_below_add m (with_page n (Some v) m) n (others_mapped n (Some v) m) (is_mapped_in pages n ∙ ap is_some absent) (here_mapped n v m)
    (2 ^ 20) in
    let low : nat_lt n (2 ^ 20) ≡ true = grind (arith, nat_tests) in
    one ∙ rw low refl

-- a page where one was is none more
pub page_count_over : (pages : PageMap) (v : PageView) (n : ℕ) → is_some (page_at pages n) ≡ true →
    page_count (with_page n (Some v) (memory_in pages)) ≡ page_count (memory_in pages)
page_count_over pages v n there = pages_below_same (memory_in pages) (with_page n (Some v) (memory_in pages)) at (2 ^ 20) where
  at : (q : ℕ) → is_mapped (with_page n (Some v) (memory_in pages)) q ≡ is_mapped (memory_in pages) q
  at q = elim (eqb_tells q n) [
    | inl w ↦ ap (λ k. is_mapped (with_page n (Some v) (memory_in pages)) k) w.1 ∙ here_mapped n v (memory_in pages)
        ∙ sym (ap (λ k. is_mapped (memory_in pages) k) w.1 ∙ is_mapped_in pages n ∙ there)
    | inr w ↦ others_mapped n (Some v) (memory_in pages) q w.1
  ]

-- ---- the memory

put_cell : (page : Option PageView) (k : ℕ) → option_map (cell_in k) (option_map page_of page) ≡ cell_of page k
put_cell None k = refl
put_cell (Some v) k = refl

pub put_in : (pages after : PageMap) (n : ℕ) (page : Option PageView) → after n ≡ option_map page_of page
    → ((q : ℕ) → q ≢ n → after q ≡ pages q) → memory_in after ≡ with_page n page (memory_in pages)
unfolding memory_in
put_in pages after n page here others = λ i x. at x i where
  at : (x : ℕ) → memory_in after x ≡ with_page n page (memory_in pages) x
  at x = elim (eqb_tells n (x / 4096)) [
    | inl w ↦ rw w.0
        (ap (λ q. option_map (cell_in (x % 4096)) (after q)) (sym w.1) ∙ ap (option_map (cell_in (x % 4096))) here
        ∙ put_cell page (x % 4096))
    | inr w ↦ rw w.0 (ap (option_map (cell_in (x % 4096))) (others (x / 4096) (λ e. w.1 (sym e))))
  ]

-- ---- the pages

pub put_each : (pages after : PageMap) (n : ℕ) (v : PageView) → AreEachPage pages → MayHave n (Some v) → length v.bytes.now ≡ 4096 →
    ((k : ℕ) → slice_index v.bytes.now k < 256)
    → after n ≡ Some (page_of v) → ((q : ℕ) → q ≢ n → after q ≡ pages q) → AreEachPage after
put_each pages after n v h may full small here others q = elim (eqb_tells q n) [
  | inl w ↦ subst (λ (k : ℕ). IfSome (after k) (IsPage k)) (sym w.1)
      (subst (λ (o : Option PageValue). IfSome o (IsPage n)) (sym here) is_page)
  | inr w ↦ subst (λ (o : Option PageValue). IfSome o (IsPage q)) (sym (others q w.1)) (h q)
] where
  is_page : IsPage n (page_of v)
  is_page = record { low = may.0; high = may.1; full = full; bytes = small; readable = may.2 }
