-- Whether two headers share a byte, in any order of the headers, and in the order of their addresses.
use Rattle.std.proofs.Common.{◌≡◌, ◌≢◌, ℕ, zero, suc, ◌+◌, ◌<◌, ◌≤◌, Bool, true, false, cond, List, [], ◌∷◌, length, get_or, arith, refl, ap, subst, sym, ◌∙◌, ⊎_elim}
use Rattle.std.specs.Prelude.{filter, All, ◌==◌, if◌then◌else◌, ◌||◌, nat_lt, max, min}
use Rattle.std.specs.List.{list_any, swap}
use Rattle.std.specs.List.Sorted.{IsNonDecreasingBy, IsPermutation, SwapsInRange, apply_swaps}
use Rattle.std.proofs.lemmas.Bool.{cases_lt, cases_eq}
use Rattle.std.proofs.lemmas.Bool.Decides.{nat_tests}
use Rattle.std.proofs.lemmas.List.{get_or_default}
use Rattle.std.proofs.lemmas.List.Folds.{list_any_none}
use Rattle.std.proofs.lemmas.List.Edits.{swapped_from_swap, length-swap}
use Rattle.std.proofs.lemmas.List.Sorted.{IsPermutation-sym}
use Rattle.std.proofs.lemmas.Bool.{or_parts}
use Rattle.rrv_model.specs.Elf.{Header, load_end, share, any_share}
use Rattle.elf_load.specs.Refusals.{has_memory}

share-comm : (g h : Header) → share g h ≡ share h g
share-comm g h =
    let later : max g.address h.address ≡ max h.address g.address = omega arith in
    let sooner : min (load_end g) (load_end h) ≡ min (load_end h) (load_end g) = omega arith in
    ap (λ (n : ℕ). nat_lt n (min (load_end g) (load_end h))) later ∙ ap (nat_lt (max h.address g.address)) sooner

-- ---- headers at different indexes

-- no two share a byte
abbrev Apart : List Header → Type 0
Apart hs = (i j : ℕ) (d : Header) → i ≢ j → i < length hs → j < length hs → share (get_or hs i d) (get_or hs j d) ≡ false

list_any-at : (p : Header → Bool) (hs : List Header) (i : ℕ) (d : Header) → list_any p hs ≡ false → i < length hs →
    p (get_or hs i d) ≡ false
list_any-at p [] i d none low = absurd (omega arith)
list_any-at p (x ∷ xs) zero d none low = (or_parts (p x) (list_any p xs) none).0
list_any-at p (x ∷ xs) (suc i) d none low = list_any-at p xs i d (or_parts (p x) (list_any p xs) none).1 (omega arith)

before : (hs : List Header) (i j : ℕ) (d : Header) → any_share hs ≡ false → i < j → j < length hs →
    share (get_or hs i d) (get_or hs j d) ≡ false
unfolding any_share
before [] i j d apart less low = absurd (omega arith)
before (x ∷ xs) i zero d apart less low = absurd (omega arith)
before (x ∷ xs) zero (suc j) d apart less low =
    list_any-at (share x) xs j d (or_parts (list_any (share x) xs) (any_share xs) apart).0 (omega arith)
before (x ∷ xs) (suc i) (suc j) d apart less low =
    before xs i j d (or_parts (list_any (share x) xs) (any_share xs) apart).1 (omega arith) (omega arith)

Apart-from_any_share : (hs : List Header) → any_share hs ≡ false → Apart hs
Apart-from_any_share hs apart i j d other low_i low_j = ⊎_elim
    (λ (less : i < j). before hs i j d apart less low_j)
    (λ (more : j ≤ i). share-comm (get_or hs i d) (get_or hs j d) ∙ before hs j i d apart (omega arith) low_i)
    (cases_lt i j)

any_share-from_Apart : (hs : List Header) → Apart hs → any_share hs ≡ false
unfolding any_share
any_share-from_Apart [] apart = refl
any_share-from_Apart (x ∷ xs) apart =
    let first = list_any_none (share x) xs (λ k d low. apart 0 (suc k) d (omega arith) (omega arith) (omega arith)) in
    let others = any_share-from_Apart xs (λ i j d other low_i low_j. apart (suc i) (suc j) d (omega arith) (omega arith) (omega arith)) in
    ap (λ (b : Bool). b || any_share xs) first ∙ others

-- ---- in another order

-- where what stands at k after a and b are exchanged stood before
abbrev place : ℕ → ℕ → ℕ → ℕ
place a b k = if k == a then b else if k == b then a else k

at_place : (xs : List Header) (a b k : ℕ) (d : Header) → a < length xs → b < length xs →
    get_or (swap xs a b) k d ≡ get_or xs (place a b k) d
at_place xs a b k d low_a low_b =
    let swapped = swapped_from_swap xs (swap xs a b) a b d low_a low_b refl in
    ⊎_elim
    (λ (is_a : k ≡ a).
    let from : place a b k ≡ b = grind (arith, nat_tests) in
    ap (λ (m : ℕ). get_or (swap xs a b) m d) is_a ∙ swapped.0 ∙ ap (λ (m : ℕ). get_or xs m d) (sym from))
    (λ (not_a : k ≢ a). ⊎_elim
    (λ (is_b : k ≡ b).
    let from : place a b k ≡ a = grind (arith, nat_tests) in
    ap (λ (m : ℕ). get_or (swap xs a b) m d) is_b ∙ swapped.1 ∙ ap (λ (m : ℕ). get_or xs m d) (sym from))
    (λ (not_b : k ≢ b).
    let from : place a b k ≡ k = grind (arith, nat_tests) in
    swapped.2 k not_a not_b ∙ ap (λ (m : ℕ). get_or xs m d) (sym from))
    (cases_eq k b))
    (cases_eq k a)

Apart-swap : (xs : List Header) (a b : ℕ) → a < length xs → b < length xs → Apart xs → Apart (swap xs a b)
Apart-swap xs a b low_a low_b apart i j d other low_i low_j =
    let same_length = length-swap xs a b in
    let within_i : place a b i < length xs = grind (arith, nat_tests) in
    let within_j : place a b j < length xs = grind (arith, nat_tests) in
    let others : place a b i ≢ place a b j = λ same. grind (arith, nat_tests) in
    ap (λ (g : Header). share g (get_or (swap xs a b) j d)) (at_place xs a b i d low_a low_b)
    ∙ ap (share (get_or xs (place a b i) d)) (at_place xs a b j d low_a low_b)
    ∙ apart (place a b i) (place a b j) d others within_i within_j

Apart-moves : (xs : List Header) (moves : List (ℕ × ℕ)) → SwapsInRange (length xs) moves → Apart xs →
    (length (apply_swaps xs moves) ≡ length xs) × Apart (apply_swaps xs moves)
Apart-moves xs [] below apart = (refl, apart)
Apart-moves xs (p ∷ ps) below apart =
    let rest = Apart-moves xs ps below.2 apart in (
      length-swap (apply_swaps xs ps) p.0 p.1 ∙ rest.0,
      Apart-swap (apply_swaps xs ps) p.0 p.1 (omega (arith, rest.0, below.0)) (omega (arith, rest.0, below.1)) rest.1,
    )

any_share-stays_false : (xs ys : List Header) → IsPermutation xs ys → any_share xs ≡ false → any_share ys ≡ false
any_share-stays_false xs ys p apart =
    any_share-from_Apart ys (subst Apart (sym p.is) (Apart-moves xs p.moves p.below (Apart-from_any_share xs apart)).1)

-- the order of the headers doesn't matter
pub any_share-permutation : (xs ys : List Header) → IsPermutation xs ys → any_share ys ≡ any_share xs
any_share-permutation xs ys p = by_answers (any_share xs) (any_share ys) refl refl where
  by_answers : (a b : Bool) → any_share xs ≡ a → any_share ys ≡ b → b ≡ a
  by_answers true true of_xs of_ys = refl
  by_answers false false of_xs of_ys = refl
  by_answers true false of_xs of_ys = sym (any_share-stays_false ys xs (IsPermutation-sym xs ys p) of_ys) ∙ of_xs
  by_answers false true of_xs of_ys = sym of_ys ∙ any_share-stays_false xs ys p of_xs

-- ---- without the empty ones

empty_shares : (g h : Header) → has_memory h ≡ false → share g h ≡ false
empty_shares g h empty = grind (arith, nat_tests)

list_any-share-filter : (g : Header) (hs : List Header) → list_any (share g) (filter has_memory hs) ≡ list_any (share g) hs
list_any-share-filter g [] = refl
list_any-share-filter g (h ∷ hs) = by_memory (has_memory h) refl (list_any-share-filter g hs) where
  by_memory : (b : Bool) → has_memory h ≡ b → list_any (share g) (filter has_memory hs) ≡ list_any (share g) hs →
      list_any (share g) (cond b (h ∷ filter has_memory hs) (filter has_memory hs)) ≡ (share g h || list_any (share g) hs)
  by_memory true some rest = ap (λ (b : Bool). share g h || b) rest
  by_memory false none rest = rest ∙ sym (ap (λ (b : Bool). b || list_any (share g) hs) (empty_shares g h none))

pub empty_shares_none : (g : Header) (hs : List Header) → has_memory g ≡ false → list_any (share g) hs ≡ false
empty_shares_none g hs empty = list_any_none (share g) hs (λ k d low. share-comm g (get_or hs k d) ∙ empty_shares (get_or hs k d) g empty)

-- an empty header shares no byte
pub any_share-filter : (hs : List Header) → any_share (filter has_memory hs) ≡ any_share hs
unfolding any_share
any_share-filter [] = refl
any_share-filter (h ∷ hs) = by_memory (has_memory h) refl (any_share-filter hs) where
  by_memory : (b : Bool) → has_memory h ≡ b → any_share (filter has_memory hs) ≡ any_share hs →
      any_share (cond b (h ∷ filter has_memory hs) (filter has_memory hs)) ≡ (list_any (share h) hs || any_share hs)
  by_memory true some rest =
      ap (λ (b : Bool). b || any_share (filter has_memory hs)) (list_any-share-filter h hs)
      ∙ ap (λ (b : Bool). list_any (share h) hs || b) rest
  by_memory false none rest = rest ∙ sym (ap (λ (b : Bool). b || any_share hs) (empty_shares_none h hs none))

some_memory : (h : Header) → has_memory h ≡ true → 0 < h.memory_len
some_memory h some = grind (arith, nat_tests)

-- those that are left have memory
pub All-has_memory : (hs : List Header) → All (λ h. 0 < h.memory_len) (filter has_memory hs)
All-has_memory [] k d low = absurd (omega arith)
All-has_memory (h ∷ hs) k d low = by_memory (has_memory h) refl (λ m e less. All-has_memory hs m e less) k d low where
  by_memory : (b : Bool) → has_memory h ≡ b → All (λ h. 0 < h.memory_len) (filter has_memory hs) →
      All (λ h. 0 < h.memory_len) (cond b (h ∷ filter has_memory hs) (filter has_memory hs))
  by_memory true some rest zero e less = some_memory h some
  by_memory true some rest (suc m) e less = rest m e (omega arith)
  by_memory false none rest m e less = rest m e less

-- ---- in the order of the addresses

ends_before : (g h : Header) → g.address ≤ h.address → 0 < h.memory_len → share g h ≡ false → load_end g ≤ h.address
ends_before g h rises some apart = grind (arith, nat_tests)

apart_behind : (g h : Header) → load_end g ≤ h.address → share g h ≡ false
apart_behind g h behind = grind (arith, nat_tests)

-- where no two neighbours share a byte, no two do
pub any_share-neighbours : (hs : List Header) → IsNonDecreasingBy (λ h. h.address) hs → All (λ h. 0 < h.memory_len) hs →
    ((k : ℕ) (d : Header) → k + 1 < length hs → share (get_or hs k d) (get_or hs (k + 1) d) ≡ false) → any_share hs ≡ false
any_share-neighbours hs rises memory apart = any_share-from_Apart hs (λ i j d other low_i low_j. ⊎_elim
    (λ (less : i < j). in_order i j d less low_j)
    (λ (more : j ≤ i). share-comm (get_or hs i d) (get_or hs j d) ∙ in_order j i d (omega arith) low_i)
    (cases_lt i j)) where
      in_order : (i j : ℕ) (d : Header) → i < j → j < length hs → share (get_or hs i d) (get_or hs j d) ≡ false
      in_order i j d less low =
          let next = ends_before (get_or hs i d) (get_or hs (i + 1) d) (rises i (i + 1) d (omega arith) (omega arith))
          (memory (i + 1) d (omega arith)) (apart i d (omega arith)) in
          let later = rises (i + 1) j d (omega arith) low in
          apart_behind (get_or hs i d) (get_or hs j d) (omega arith)

-- two headers that share a byte decide
pub any_share-at : (hs : List Header) (i j : ℕ) (g h : Header) → i < j → j < length hs → g ≡ get_or hs i g → h ≡ get_or hs j h →
    share g h ≡ true → any_share hs ≡ true
any_share-at hs i j g h less low g_is h_is shared = by_answer (any_share hs) refl where
  by_answer : (b : Bool) → any_share hs ≡ b → b ≡ true
  by_answer true some = refl
  by_answer false none =
      sym (ap (λ (f : Header). share f h) g_is ∙ ap (share (get_or hs i g)) (h_is ∙ get_or_default hs j h g low)
      ∙ before hs i j g none less low) ∙ shared
