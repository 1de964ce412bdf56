-- The lanes of two lines, and the bits of those that differ.
use Rattle.std.proofs.Common.{◌≡◌, ◌≢◌, ◌↔◌, ℕ, zero, suc, ◌%◌, ◌^◌, ◌<◌, Bool, true, false, not, cond, eqb, IsTrue, List, [], ◌∷◌, map, length, get_or, replicate, refl, sym, ◌∙◌, arith, eqb-true, eq-eqb}
use Rattle.std.proofs.lemmas.Bool.{eqb-false}
use Rattle.std.proofs.lemmas.List.{length-map}
use Rattle.std.proofs.lemmas.Simd.{length-zip2, mask_l-mod}
use lib.Lanes.{zip2, mask_l, top}
use Rattle.lane_pages.specs.Lines.{AreZero, Differ}

abbrev pub apart : ℕ → ℕ → ℕ
apart a b = cond (not (eqb a b)) 255 0

-- a bit for each lane that differs
abbrev pub bits_apart : List ℕ → List ℕ → ℕ
bits_apart xs ys = mask_l (map (top 7) (zip2 apart xs ys))

lane_same : (x y : ℕ) → ◌≡◌ {A = ℕ} (cond (top 7 (apart x y)) 1 0) 0 → x ≡ y
lane_same x y = go (eqb x y) refl where
  go : (t : Bool) → eqb x y ≡ t → ◌≡◌ {A = ℕ} (cond (top 7 (cond (not t) 255 0)) 1 0) 0 → x ≡ y
  go true e q = eqb-true _ _ e
  go false e q = absurd (omega arith)

same_lane : (x y : ℕ) → x ≡ y → ◌≡◌ {A = ℕ} (cond (top 7 (apart x y)) 1 0) 0
same_lane x y same = go (eqb x y) refl where
  go : (t : Bool) → eqb x y ≡ t → ◌≡◌ {A = ℕ} (cond (top 7 (cond (not t) 255 0)) 1 0) 0
  go true e = refl
  go false e = absurd (eqb-false _ _ e same)

all_same : (xs ys : List ℕ) → length xs ≡ length ys → bits_apart xs ys ≡ 0 → (k : ℕ) → k < length xs → get_or xs k 0 ≡ get_or ys k 0
all_same [] ys long none k low = absurd (omega arith)
all_same (x ∷ xs) [] long none k low = absurd (omega arith)
all_same (x ∷ xs) (y ∷ ys) long none zero low = lane_same x y (omega (arith, none))
all_same (x ∷ xs) (y ∷ ys) long none (suc k) low = all_same xs ys (omega (arith, long)) (omega (arith, none)) k (omega (arith, low))

none_apart : (xs ys : List ℕ) → length xs ≡ length ys → ((k : ℕ) → k < length xs → get_or xs k 0 ≡ get_or ys k 0) → bits_apart xs ys ≡ 0
none_apart [] ys long same = refl
none_apart (x ∷ xs) [] long same = absurd (omega arith)
none_apart (x ∷ xs) (y ∷ ys) long same =
    omega (arith, same_lane x y (same 0 (omega arith)), none_apart xs ys (omega (arith, long)) (λ k low. same (suc k) (omega (arith, low))))

some_apart : (xs ys : List ℕ) → length xs ≡ length ys → bits_apart xs ys ≢ 0 → (k : ℕ) × (k < length xs) × (get_or xs k 0 ≢ get_or ys k 0)
some_apart [] ys long some = absurd (some refl)
some_apart (x ∷ xs) [] long some = absurd (omega arith)
some_apart (x ∷ xs) (y ∷ ys) long some = go (eqb x y) refl (λ none. some_apart xs ys (omega (arith, long)) none) where
  go : (t : Bool) → eqb x y ≡ t → (bits_apart xs ys ≢ 0 → (k : ℕ) × (k < length xs) × (get_or xs k 0 ≢ get_or ys k 0)) →
      (k : ℕ) × (k < suc (length xs)) × (get_or (x ∷ xs) k 0 ≢ get_or (y ∷ ys) k 0)
  go true e tail =
      let next = tail (λ none. some (omega (arith, same_lane x y (eqb-true _ _ e), none))) in
      (suc next.0, omega (arith, next.1), next.2)
  go false e tail = (0, omega arith, eqb-false _ _ e)

-- ---- of 64 lanes

bits_fit : (xs ys : List ℕ) → length xs ≡ 64 → length ys ≡ 64 → bits_apart xs ys % 2 ^ 64 ≡ bits_apart xs ys
bits_fit xs ys long as_long =
    mask_l-mod _ 64 (omega (arith, length-map (zip2 apart xs ys) (top 7), length-zip2 apart xs ys (long ∙ sym as_long)))

not_true : (b : Bool) → not b ≡ true → b ≡ false
not_true true e = sym e
not_true false e = refl

true_not : (b : Bool) → b ≡ false → not b ≡ true
true_not true e = sym e
true_not false e = refl

not_zero : (n : ℕ) → n ≢ 0 → eqb n 0 ≡ false
not_zero n h = go (eqb n 0) refl where
  go : (t : Bool) → eqb n 0 ≡ t → t ≡ false
  go true e = absurd (h (eqb-true _ _ e))
  go false e = refl

pub differ_by_bits : (xs ys : List ℕ) → length xs ≡ 64 → length ys ≡ 64 → IsTrue (not (eqb (bits_apart xs ys % 2 ^ 64) 0)) ↔ Differ xs ys
differ_by_bits xs ys long as_long =
    let fit = bits_fit xs ys long as_long in
    let alike = long ∙ sym as_long in (
      λ some.
          let found = some_apart xs ys alike (λ none. eqb-false _ _ (not_true _ some) (fit ∙ none)) in
          (found.0, omega (arith, found.1, long), found.2),
      λ found. true_not _ (not_zero _ (λ none. found.2 (all_same xs ys alike (sym fit ∙ none) found.0 (omega (arith, found.1, long))))),
    )

zeros : (n k : ℕ) → let zero_byte : ℕ = 0 in get_or (replicate n zero_byte) k zero_byte ≡ zero_byte
zeros zero k = refl
zeros (suc n) zero = refl
zeros (suc n) (suc k) = zeros n k

pub zero_by_bits : (xs : List ℕ) → length xs ≡ 64 → IsTrue (eqb (bits_apart xs (replicate 64 0) % 2 ^ 64) 0) ↔ AreZero xs
zero_by_bits xs long =
    let fit = bits_fit xs (replicate 64 0) long refl in (
      λ none k low. all_same xs (replicate 64 0) long (sym fit ∙ eqb-true _ _ none) k (omega (arith, low, long)) ∙ zeros 64 k,
      λ all. eq-eqb _ _ (fit ∙ none_apart xs (replicate 64 0) long (λ k low. all k (omega (arith, low, long)) ∙ sym (zeros 64 k))),
    )
