-- Numbers in a list.
use Rattle.std.proofs.Common.{◌≡◌, ◌≢◌, ◌∙◌, ℕ, zero, suc, ◌<◌, length, get_or, ◌==◌, ◌||◌, Bool, true, false, List, [], ◌∷◌, ◌++◌, refl, ap, sym, subst, arith, inl, inr}
use Rattle.std.proofs.Math.Bool.{or-false, or-true, or_assoc}
use Rattle.std.proofs.lemmas.Bool.{false≢true, or_parts}
use Rattle.std.proofs.lemmas.Bool.Decides.{nat_tests, eqb_tells}
use Rattle.page_tables.specs.Changes.{is_listed}

listed-append : (xs ys : List ℕ) (q : ℕ) → is_listed (xs ++ ys) q ≡ (is_listed xs q || is_listed ys q)
listed-append [] ys q = refl
listed-append (x ∷ xs) ys q = ap (λ b. (x == q) || b) (listed-append xs ys q) ∙ sym (or_assoc (x == q) (is_listed xs q) (is_listed ys q))

one_more : (xs : List ℕ) (n q : ℕ) → is_listed (xs ++ n ∷ []) q ≡ (is_listed xs q || (n == q))
one_more xs n q = listed-append xs (n ∷ []) q ∙ ap (λ b. is_listed xs q || b) (or-false (n == q))

-- what is listed once a number is
pub listed_more : (xs : List ℕ) (n : ℕ) (P : ℕ → Type 0) → ((q : ℕ) → is_listed xs q ≡ true → P q) → P n → (q : ℕ) →
    is_listed (xs ++ n ∷ []) q ≡ true → P q
listed_more xs n P h here q e = by_test (is_listed xs q) refl where
  by_test : (b : Bool) → is_listed xs q ≡ b → P q
  by_test true f = h q f
  by_test false f = elim (eqb_tells n q) [
    | inl w ↦ subst P w.1 here
    | inr w ↦ absurd (false≢true (sym w.0 ∙ sym (ap (λ b. b || (n == q)) f) ∙ sym (one_more xs n q) ∙ e))
  ]

-- and what is not
pub unlisted_more : (xs : List ℕ) (n q : ℕ) → is_listed (xs ++ n ∷ []) q ≡ false → (is_listed xs q ≡ false) × (n ≢ q)
unlisted_more xs n q e =
    let parts = or_parts (is_listed xs q) (n == q) (sym (one_more xs n q) ∙ e) in
    (parts.0, λ same. apart parts.1 same) where
      apart : (n == q) ≡ false → n ≡ q → ⊥
      apart f g = absurd (grind (arith, nat_tests))

pub still_listed : (xs : List ℕ) (n q : ℕ) → is_listed xs q ≡ true → is_listed (xs ++ n ∷ []) q ≡ true
still_listed xs n q e = one_more xs n q ∙ ap (λ b. b || (n == q)) e

pub last_listed : (xs : List ℕ) (n : ℕ) → is_listed (xs ++ n ∷ []) n ≡ true
last_listed xs n = let same : (n == n) ≡ true =
    grind (arith, nat_tests) in one_more xs n n ∙ ap (λ b. is_listed xs n || b) same ∙ or-true (is_listed xs n)

-- an element of a list is listed
pub listed_taken : (xs : List ℕ) (i : ℕ) → i < length xs → is_listed xs (get_or xs i 0) ≡ true
listed_taken [] i l = absurd (omega (arith, l))
listed_taken (x ∷ xs) zero l = let same : (x == x) ≡ true = grind (arith, nat_tests) in ap (λ b. b || is_listed xs x) same
listed_taken (x ∷ xs) (suc i) l = ap (λ b. (x == get_or xs i 0) || b) (listed_taken xs i (omega (arith, l))) ∙ or-true (x == get_or xs i 0)
