-- The search for a free place finds the highest.
use Rattle.std.proofs.Common.{◌≡◌, ℕ, zero, suc, ◌-◌, ◌<◌, ◌≤◌, inl, inr, Bool, true, false, cond, Option, Some, None, refl, sym, ◌∙◌, ap, subst, arith}
use Rattle.std.proofs.lemmas.Bool.{false≢true, cases_lt}
use Rattle.rrv_model.specs.Memory.{Memory, all_free, highest_free_up_to, IsFreePlace, IsHighestFree, HighestFreeIsFound}

-- a search up to n told this: p is free and none above it, or none is
abbrev Tells : ℕ → Memory → ℕ → Option ℕ → Type 0
Tells n m count None = (q : ℕ) → 1 ≤ q → q ≤ n → all_free m q count ≡ false
Tells n m count (Some p) = (1 ≤ p) × (p ≤ n) × (all_free m p count ≡ true) × ((q : ℕ) → p < q → q ≤ n → all_free m q count ≡ false)

-- one place more, which isn't free
one_more : (n : ℕ) (m : Memory) (count q : ℕ) → all_free m (suc n) count ≡ false → q ≤ suc n → (q ≤ n → all_free m q count ≡ false) →
    all_free m q count ≡ false
one_more n m count q taken high h = elim (cases_lt n q) [
  | inl w ↦ let e : suc n ≡ q = omega arith in subst (λ k. all_free m k count ≡ false) e taken
  | inr w ↦ h w
]

tells_more : (n : ℕ) (m : Memory) (count : ℕ) (o : Option ℕ) → all_free m (suc n) count ≡ false → Tells n m count o →
    Tells (suc n) m count o
tells_more n m count None taken h = λ q low high. one_more n m count q taken high (h q low)
tells_more n m count (Some p) taken h = (h.0, omega (arith, h.1), h.2, λ q low high. one_more n m count q taken high (h.3 q low))

tells_this : (n : ℕ) (m : Memory) (count : ℕ) (b : Bool) → all_free m (suc n) count ≡ b → Tells n m count (highest_free_up_to n m count) →
    Tells (suc n) m count (cond b (Some (suc n)) (highest_free_up_to n m count))
tells_this n m count true free h = (omega arith, omega arith, free, λ q low high. absurd (omega arith))
tells_this n m count false taken h = tells_more n m count (highest_free_up_to n m count) taken h

tells : (n : ℕ) (m : Memory) (count : ℕ) → Tells n m count (highest_free_up_to n m count)
unfolding highest_free_up_to
tells zero m count = λ q low high. absurd (omega arith)
tells (suc n) m count = tells_this n m count (all_free m (suc n) count) refl (tells n m count)

-- ---- in the words of places

untrue : (b : Bool) → b ≡ true → b ≡ false → ⊥
untrue b t f = false≢true (sym f ∙ t)

is_highest : (m : Memory) (count p : ℕ) (o : Option ℕ) → o ≡ Some p → Tells (0x70000 - count) m count o → IsHighestFree m count p
is_highest m count p o e h =
    let t : Tells (0x70000 - count) m count (Some p) = subst (Tells (0x70000 - count) m count) e h in
    record {
      place = record { low = t.0; high = omega (arith, t.1, t.0); free = t.2 };
      highest = λ q free. elim (cases_lt p q) [
        | inl w ↦ absurd (untrue (all_free m q count) free.free (t.3 q w (omega (arith, free.high))))
        | inr w ↦ w
      ];
    }

none_is_free : (m : Memory) (count : ℕ) (o : Option ℕ) → o ≡ None → Tells (0x70000 - count) m count o → (q : ℕ) → IsFreePlace m count q → ⊥
none_is_free m count o e h q free =
    let t : Tells (0x70000 - count) m count None = subst (Tells (0x70000 - count) m count) e h in
    untrue (all_free m q count) free.free (t q free.low (omega (arith, free.high)))

one_highest : (m : Memory) (count p q : ℕ) → IsHighestFree m count p → IsHighestFree m count q → p ≡ q
one_highest m count p q a b =
    let low : p ≤ q = b.highest p a.place in
    let high : q ≤ p = a.highest q b.place in
    omega arith

finds : (m : Memory) (count p : ℕ) (o : Option ℕ) → Tells (0x70000 - count) m count o → IsHighestFree m count p → o ≡ Some p
finds m count p None h is = absurd (none_is_free m count None refl h p is.place)
finds m count p (Some q) h is = ap Some (one_highest m count q p (is_highest m count q (Some q) refl h) is)

finds_none : (m : Memory) (count : ℕ) (o : Option ℕ) → Tells (0x70000 - count) m count o → ((q : ℕ) → IsFreePlace m count q → ⊥) → o ≡ None
finds_none m count None h none = refl
finds_none m count (Some p) h none = absurd (none p (is_highest m count p (Some p) refl h).place)

pub highest_free_is_found : HighestFreeIsFound
highest_free_is_found m count =
    let o = highest_free_up_to (0x70000 - count) m count in
    let told = tells (0x70000 - count) m count in (
      λ p. (λ e. is_highest m count p o e told, λ is. finds m count p o told is),
      (λ e. none_is_free m count o e told, λ none. finds_none m count o told none),
    )
