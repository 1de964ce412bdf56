-- The pages that are named, and those that are not.
use Rattle.std.proofs.Common.{◌≡◌, ◌≢◌, ◌⊎◌, ◌∙◌, inl, inr, ℕ, zero, suc, ◌+◌, ◌/◌, ◌<◌, ◌==◌, false, cond, List, [], ◌∷◌, ◌++◌, length, length-append, map, drop, take, slice_index, slice_index_or, Option, Some, None, ap, refl, sym, subst, arith}
use Rattle.std.proofs.lemmas.Bool.Decides.{eqb_tells}
use Rattle.std.proofs.lemmas.List.{take-append-drop}
use Rattle.std.specs.List.{AllByRecursion, Contains}
use Rattle.std.specs.List.Sorted.{IsStrictlyIncreasing}
use Rattle.rrv_model.specs.declared.record.PagePart.{PagePart}
use Rattle.rrv_model.specs.Checkpoint.{IsPagePart, entry_of, patched, patched_cell}
use Rattle.rrv_model.specs.Memory.{Memory, page_bytes}
use Rattle.rrv_model.specs.RecordText.{HasPageText}
use Rattle.outcomes.proofs.Lists.{AllByRecursion-back, AllByRecursion-front}
use Rattle.guest_pages.specs.Snapshots.{AreChanges}
use Rattle.checkpoint.specs.Made.{IsChange, IsMade, Says}

-- ---- numbers that rise

front_at : (xs ys : List ℕ) (k : ℕ) → k < length xs → slice_index (xs ++ ys) k ≡ slice_index xs k
front_at [] ys k low = absurd (omega arith)
front_at (x ∷ xs) ys zero low = refl
front_at (x ∷ xs) ys (suc k) low = front_at xs ys k (omega (arith, low))

back_at : (xs ys : List ℕ) (k : ℕ) → slice_index (xs ++ ys) (length xs + k) ≡ slice_index ys k
back_at [] ys k = let same : 0 + k ≡ k = omega arith in ap (slice_index ys) same
back_at (x ∷ xs) ys k = let next : suc (length xs) + k ≡ suc (length xs + k) =
    omega arith in ap (slice_index (x ∷ (xs ++ ys))) next ∙ back_at xs ys k

pub rise_front : (xs ys : List ℕ) → IsStrictlyIncreasing (xs ++ ys) → IsStrictlyIncreasing xs
rise_front xs ys rise k low =
    omega (arith, rise k (omega (arith, low, length-append xs ys)), front_at xs ys k (omega (arith, low)), front_at xs ys (k + 1) low)

pub rise_back : (xs ys : List ℕ) → IsStrictlyIncreasing (xs ++ ys) → IsStrictlyIncreasing ys
rise_back xs ys rise k low =
    let next : length xs + k + 1 ≡ length xs + (k + 1) = omega arith in
    omega (
      arith,
      rise (length xs + k) (omega (arith, low, length-append xs ys)),
      back_at xs ys k,
      ap (slice_index (xs ++ ys)) next ∙ back_at xs ys (k + 1),
    )

-- ---- what holds of each

-- what holds of each number that is contained
pub of_contained : (P : ℕ → Type 0) (xs : List ℕ) → ((n : ℕ) → Contains xs n → P n) → AllByRecursion P xs
of_contained P [] h = tt
of_contained P (x ∷ xs) h = (h x (0, omega arith, refl), of_contained P xs (λ n c. h n (suc c.0, omega (arith, c.1), c.2)))

-- so of the first of them, and of those behind
pub of_front : (P : ℕ → Type 0) (left front behind : List ℕ) → front ++ behind ≡ left → AllByRecursion P left → AllByRecursion P front
of_front P left front behind split all = AllByRecursion-front P front behind (subst (λ (ns : List ℕ). AllByRecursion P ns) (sym split) all)

pub of_back : (P : ℕ → Type 0) (left front behind : List ℕ) → front ++ behind ≡ left → AllByRecursion P left → AllByRecursion P behind
of_back P left front behind split all = AllByRecursion-back P front behind (subst (λ (ns : List ℕ). AllByRecursion P ns) (sym split) all)

pub split_of : (left front behind : List ℕ) → front ≡ take 1024 left → behind ≡ drop 1024 left → front ++ behind ≡ left
split_of left front behind first rest = (λ i. first i ++ rest i) ∙ take-append-drop 1024 left

pub changes_of : (before m : Memory) (pages : List PagePart) → AllByRecursion (IsMade before m) pages →
    AllByRecursion (IsChange before m) pages
changes_of before m [] made = tt
changes_of before m (p ∷ pages) made = (made.0.change, changes_of before m pages made.1)

pub texts_of : (before m : Memory) (pages : List PagePart) → AllByRecursion (IsMade before m) pages → AllByRecursion HasPageText pages
texts_of before m [] made = tt
texts_of before m (p ∷ pages) made = (made.0.text, texts_of before m pages made.1)

pub page_parts : (before m : Memory) (pages : List PagePart) → AllByRecursion (IsMade before m) pages → AllByRecursion IsPagePart pages
page_parts before m [] made = tt
page_parts before m (p ∷ pages) made =
    (record { lines = made.0.text.lines; unmapped = made.0.text.unmapped }, page_parts before m pages made.1)

-- ---- what is named of a page

-- page n is named and as in the memory, or no page of that number is named
abbrev Told : Memory → Memory → ℕ → List PagePart → Type 0
Told before m n pages =
    ((p : PagePart) × (entry_of n pages ≡ Some p) × (p.number ≡ n) × Says before m p) ⊎
    ((entry_of n pages ≡ None) × (Contains (map (λ p. p.number) pages) n → ⊥))

told_behind : (before m : Memory) (n : ℕ) (p : PagePart) (pages : List PagePart) → (p.number == n) ≡ false → p.number ≢ n →
    Told before m n pages → Told before m n (p ∷ pages)
unfolding entry_of
told_behind before m n p pages test other (inl h) = inl (h.0, ap (λ b. cond b (Some p) (entry_of n pages)) test ∙ h.1, h.2, h.3)
told_behind before m n p pages test other (inr h) = inr (
  ap (λ b. cond b (Some p) (entry_of n pages)) test ∙ h.0,
  λ c. none c.0 c.1 c.2,
) where
  none : (k : ℕ) → k < suc (length (map (λ (q : PagePart). q.number) pages)) →
      slice_index_or (p.number ∷ map (λ (q : PagePart). q.number) pages) k n ≡ n → ⊥
  none zero low at = other at
  none (suc k) low at = h.1 (k, omega (arith, low), at)

told : (before m : Memory) (n : ℕ) (pages : List PagePart) → AllByRecursion (IsMade before m) pages → Told before m n pages
unfolding entry_of
told before m n [] made = inr (refl, λ c. absurd (omega (arith, c.1)))
told before m n (p ∷ pages) made = elim (eqb_tells p.number n) [
  | inl w ↦ inl (p, ap (λ b. cond b (Some p) (entry_of n pages)) w.0, w.1, made.0.says)
  | inr w ↦ told_behind before m n p pages w.0 w.1 (told before m n pages made.1)
]

-- the pages that are named, put onto the base's memory, give this one
pub patched_is : (before m : Memory) (pages : List PagePart) → AreChanges before m (map (λ p. p.number) pages) →
    AllByRecursion (IsMade before m) pages → patched pages before ≡ m
patched_is before m pages changes made = λ i a. at a (told before m (a / page_bytes) pages made) i where
  at : (a : ℕ) → Told before m (a / page_bytes) pages → patched_cell (entry_of (a / page_bytes) pages) (before a) a ≡ m a
  at a (inl h) = ap (λ (o : Option PagePart). patched_cell o (before a) a) h.1 ∙ h.3 a (sym h.2)
  at a (inr h) = ap (λ (o : Option PagePart). patched_cell o (before a) a) h.0 ∙ changes.others (a / page_bytes) h.1 a refl
