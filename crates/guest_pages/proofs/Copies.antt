-- Pages that are copied one after the other, by rising numbers.
use Rattle.std.proofs.Common.{◌≡◌, ◌≢◌, ◌∙◌, ◌⊎◌, ℕ, ◌+◌, ◌<◌, ◌≤◌, Some, None, ap, sym, subst, arith, inl, inr}
use Rattle.std.proofs.lemmas.Bool.Decides.{eqb_tells}
use Rattle.std.specs.Prelude.{IfSome}
use Rattle.rrv_model.specs.Memory.{page_count}
use Rattle.page_tables.specs.Changes.{IsNext}
use Rattle.page_tables.specs.Contents.{contents_of}
use Rattle.guest_pages.specs.Space.{SpaceValue, PageMap, AreEachPage, ArePages, IsSpace, memory_in}

-- what is below a number is copied, and nothing else
pub record Copied (from copy : PageMap) (least : ℕ) : Type 0 where
  pub below : (q : ℕ) → q < least → copy q ≡ from q
  pub ahead : (q : ℕ) → least ≤ q → copy q ≡ None

pub copied_none : (from copy : PageMap) → ((q : ℕ) → copy q ≡ None) → Copied from copy 0
copied_none from copy none = record { below = λ q low. absurd (omega (arith, low)); ahead = λ q low. none q }

below_or : (q n : ℕ) → (q < n) ⊎ (n ≤ q)
below_or q n = grind arith

-- the next page is, too
pub copied_next : (from copy after : PageMap) (least n : ℕ) → Copied from copy least → IsNext from least (Some n) → after n ≡ from n
    → ((q : ℕ) → q ≢ n → after q ≡ copy q) → Copied from after (n + 1)
copied_next from copy after least n h next here others = record {
  below = λ q low. elim (eqb_tells q n) [
    | inl w ↦ ap after w.1 ∙ here ∙ ap from (sym w.1)
    | inr w ↦ others q w.1 ∙ between q w.1 low (below_or q least)
  ];
  ahead = λ q low. others q (λ e. omega (arith, e, low)) ∙ h.ahead q (omega (arith, low, next.0));
} where
  between : (q : ℕ) → q ≢ n → q < n + 1 → (q < least) ⊎ (least ≤ q) → copy q ≡ from q
  between q apart low (inl before) = h.below q before
  between q apart low (inr behind) = h.ahead q behind ∙ sym (next.3 q behind (omega (arith, apart, low)))

-- where none is left, all are
pub copied_all : (from copy : PageMap) (least : ℕ) → Copied from copy least → IsNext from least None → copy ≡ from
copied_all from copy least h none = λ i q. at q (below_or q least) i where
  at : (q : ℕ) → (q < least) ⊎ (least ≤ q) → copy q ≡ from q
  at q (inl before) = h.below q before
  at q (inr behind) = h.ahead q behind ∙ sym (none q behind)

-- a space with the pages of another, and no snapshot
pub copied_space : (s t : SpaceValue) (mapped : ℕ) → IsSpace s mapped → (contents_of t).pages ≡ (contents_of s).pages →
    ((i : ℕ) → (contents_of t).kept i ≡ None) → IsSpace t mapped
copied_space s t mapped h same none = record {
  pages = subst ArePages (sym same) h.pages;
  kept = λ i. subst (λ o. IfSome o AreEachPage) (sym (none i)) tt;
  count = h.count ∙ ap (λ (pages : PageMap). page_count (memory_in pages)) (sym same);
}
