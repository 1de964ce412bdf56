-- Pages that stand for the same memory.
use Rattle.std.proofs.Common.{◌≡◌, ℕ, ◌+◌, ◌*◌, ◌/◌, ◌%◌, ◌<◌, Option, Some, None, IfSome, is_some, IsTrue, Bool, true, false, refl, ap, ◌∙◌, sym, arith, inl, inr}
use Rattle.std.proofs.lemmas.Bool.{false≢true, cases_lt}
use Rattle.std.proofs.lemmas.Grind.{same_number_lists}
use Rattle.std.specs.Option.{option_map}
use Rattle.page_permissions.specs.declared.page.Permissions.{Permissions}
use Rattle.rrv_model.specs.Memory.{Memory, Cell, byte_or_zero}
use Rattle.page_tables.specs.Contents.{PageValue}
use Rattle.guest_pages.specs.Space.{PageMap, page_at, memory_in, cell_in, IsPage, AreEachPage}
use Rattle.guest_pages.specs.Mapping.{SameAt}
use Rattle.guest_pages.proofs.Facts.{none_high}

pub in_page : (pages : PageMap) (n k : ℕ) → k < 4096 → memory_in pages (n * 4096 + k) ≡ option_map (cell_in k) (page_at pages n)
unfolding memory_in
in_page pages n k l =
    let place : (n * 4096 + k) / 4096 ≡ n = omega arith in
    let offset : (n * 4096 + k) % 4096 ≡ k = omega arith in
    rw (place, offset) refl

pub same_memory : (a b : PageMap) → AreEachPage a → AreEachPage b → ((q : ℕ) → q < 0x80000 → SameAt a b q) → memory_in a ≡ memory_in b
unfolding memory_in
same_memory a b ha hb same = λ i x. at x i where
  at : (x : ℕ) → memory_in a x ≡ memory_in b x
  at x = elim (cases_lt (x / 4096) 0x80000) [
    | inl w ↦ ap (option_map (cell_in (x % 4096))) (same (x / 4096) w)
    | inr w ↦ none_high a ha x (omega arith) ∙ sym (none_high b hb x (omega arith))
  ]

abbrev pub permissions_or : Permissions → Option Cell → Permissions
permissions_or d None = d
permissions_or d (Some c) = c.permissions

pub same_page : (p q : PageValue) → p.permissions ≡ q.permissions → p.bytes ≡ q.bytes → p ≡ q
same_page p q e f = λ i. record { permissions = e i; bytes = f i }

same_from_cells : (n : ℕ) (p q : Option PageValue) → IfSome p (IsPage n) → IfSome q (IsPage n) →
    ((k : ℕ) → k < 4096 → option_map (cell_in k) p ≡ option_map (cell_in k) q) → p ≡ q
same_from_cells n None None hp hq e = refl
same_from_cells n None (Some q) hp hq e = absurd (false≢true (ap is_some (e 0 (omega arith))))
same_from_cells n (Some p) None hp hq e = absurd (false≢true (sym (ap is_some (e 0 (omega arith)))))
same_from_cells n (Some p) (Some q) hp hq e = ap Some (same_page p q
    (ap (permissions_or p.permissions) (e 0 (omega arith)))
    (same_number_lists p.bytes q.bytes (hp.full ∙ sym hq.full) (λ k l. ap byte_or_zero (e k (omega (arith, l, hp.full))))))

pub pages_of_same : (a b : PageMap) → AreEachPage a → AreEachPage b → memory_in a ≡ memory_in b → (q : ℕ) → SameAt a b q
pages_of_same a b ha hb e q =
    same_from_cells q (page_at a q) (page_at b q) (ha q) (hb q)
    (λ k l. sym (in_page a q k l) ∙ ap (λ (m : Memory). m (q * 4096 + k)) e ∙ in_page b q k l)

pub decides_same : (a b : PageMap) → AreEachPage a → AreEachPage b → (r : Bool)
    → (r ≡ true → (q : ℕ) → q < 0x80000 → SameAt a b q)
    → (r ≡ false → (q : ℕ) × (SameAt a b q → ⊥))
    → (IsTrue r → memory_in a ≡ memory_in b) × (memory_in a ≡ memory_in b → IsTrue r)
decides_same a b ha hb true all one = (λ t. same_memory a b ha hb (all refl), λ e. refl)
decides_same a b ha hb false all one = (λ t. absurd (false≢true t), λ e. absurd ((one refl).1 (pages_of_same a b ha hb e (one refl).0)))
