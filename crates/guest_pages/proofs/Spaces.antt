-- What holds of a space after a change of its tables.
use Rattle.std.proofs.Common.{◌≡◌, ◌≢◌, ◌∙◌, ℕ, zero, suc, ◌≤◌, ◌^◌, false, Option, Some, None, IfSome, IsSomeAnd, is_some, refl, sym, ap, subst, arith, inl, inr}
use Rattle.std.proofs.lemmas.Bool.{false≢true}
use Rattle.std.proofs.lemmas.Bool.Decides.{eqb_tells}
use Rattle.std.specs.Option.{option_map}
use Rattle.rrv_model.specs.declared.limits.TheConstants.{MAX_PAGES}
use Rattle.rrv_model.specs.Memory.{page_count, pages_below}
use Rattle.page_tables.specs.Contents.{PageValue, contents_of}
use Rattle.page_tables.specs.Changes.{IsKept, IsReleased}
use Rattle.guest_pages.specs.declared.page.PageView.{PageView}
use Rattle.guest_pages.specs.Space.{SpaceValue, PageMap, memory_in, memory_of, cell_in, IsPage, AreEachPage, ArePages, IsSpace}
use Rattle.guest_pages.specs.Snapshots.{IsPageOf}
use Rattle.guest_pages.specs.WholePages.{page_of}
use Rattle.guest_pages.proofs.Facts.{is_mapped_in}
use Rattle.guest_pages.proofs.SameMemory.{in_page}

-- the pages stay pages, snapshots stay, and so many are mapped
pub is_space : (s t : SpaceValue) (mapped later : ℕ) → IsSpace s mapped → AreEachPage (contents_of t).pages →
    (contents_of t).kept ≡ (contents_of s).kept
    → later ≡ page_count (memory_of t) → later ≤ MAX_PAGES → IsSpace t later
is_space s t mapped later h each kept count few = record {
  pages = record { each = each; limit = subst (λ (k : ℕ). k ≤ MAX_PAGES) count few };
  kept = subst (λ (k : ℕ → Option PageMap). (i : ℕ) → IfSome (k i) AreEachPage) (sym kept) h.kept;
  count = count;
}

none_below : (pages : PageMap) → ((n : ℕ) → pages n ≡ None) → (n : ℕ) → pages_below n (memory_in pages) ≡ 0
unfolding pages_below
none_below pages none zero = refl
none_below pages none (suc n) = rw (is_mapped_in pages n, none n, none_below pages none n) refl

-- a space with no page and no snapshot
pub empty_space : (s : SpaceValue) → ((n : ℕ) → (contents_of s).pages n ≡ None) → ((i : ℕ) → (contents_of s).kept i ≡ None) → IsSpace s 0
empty_space s none nil =
    let count : page_count (memory_of s) ≡ 0 = none_below (contents_of s).pages none (2 ^ 20) in
    record {
      pages = record { each = λ n. subst (λ (o : Option PageValue). IfSome o (IsPage n)) (sym (none n)) tt; limit = omega (arith, count) };
      kept = λ i. subst (λ (o : Option PageMap). IfSome o AreEachPage) (sym (nil i)) tt;
      count = sym count;
    }

-- a page as it is read
pub page_read : (pages : PageMap) (n : ℕ) (v : Option PageView) → option_map page_of v ≡ pages n → IsPageOf (memory_in pages) n v
page_read pages n None e = λ k l. in_page pages n k l ∙ ap (option_map (cell_in k)) (sym e)
page_read pages n (Some v) e = λ k l. in_page pages n k l ∙ ap (option_map (cell_in k)) (sym e)

-- a space once a snapshot is made
pub kept_space : (s t : SpaceValue) (mapped number : ℕ) → IsSpace s mapped → IsKept number (contents_of s) (contents_of t) →
    IsSpace t mapped
kept_space s t mapped number h k = record {
  pages = subst ArePages (sym k.pages) h.pages;
  kept = λ i. elim (eqb_tells i number) [
    | inl w ↦ subst (λ (o : Option PageMap). IfSome o AreEachPage) (sym (ap (contents_of t).kept w.1 ∙ k.here)) h.pages.each
    | inr w ↦ subst (λ (o : Option PageMap). IfSome o AreEachPage) (sym (k.others i w.1)) (h.kept i)
  ];
  count = h.count ∙ ap (λ (pages : PageMap). page_count (memory_in pages)) (sym k.pages);
}

-- and once one is let go
pub released_space : (s t : SpaceValue) (mapped number : ℕ) → IsSpace s mapped → IsReleased number (contents_of s) (contents_of t) →
    IsSpace t mapped
released_space s t mapped number h k = record {
  pages = subst ArePages (sym k.pages) h.pages;
  kept = λ i. elim (eqb_tells i number) [
    | inl w ↦ subst (λ (o : Option PageMap). IfSome o AreEachPage) (sym (ap (contents_of t).kept w.1 ∙ k.gone)) tt
    | inr w ↦ subst (λ (o : Option PageMap). IfSome o AreEachPage) (sym (k.others i w.1)) (h.kept i)
  ];
  count = h.count ∙ ap (λ (pages : PageMap). page_count (memory_in pages)) (sym k.pages);
}

-- a page that is taken away leaves the others pages
pub removed_each : (pages after : PageMap) (n : ℕ) → AreEachPage pages → after n ≡ None → ((q : ℕ) → q ≢ n → after q ≡ pages q) →
    AreEachPage after
removed_each pages after n h gone others q = elim (eqb_tells q n) [
  | inl w ↦ subst (λ k. IfSome (after k) (IsPage k)) (sym w.1) (subst (λ (o : Option PageValue). IfSome o (IsPage n)) (sym gone) tt)
  | inr w ↦ subst (λ (o : Option PageValue). IfSome o (IsPage q)) (sym (others q w.1)) (h q)
]

pub no_page : (o : Option PageValue) → is_some o ≡ false → o ≡ None
no_page None h = refl
no_page (Some p) h = absurd (false≢true (sym h))
