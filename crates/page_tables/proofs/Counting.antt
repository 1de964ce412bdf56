-- How many pages there are: each page of the current table is one of the pool's, and with no snapshot there are no others.
use Rattle.std.proofs.Common.{◌≡◌, ◌≢◌, ◌∙◌, ℕ, zero, suc, ◌+◌, ◌<◌, ◌≤◌, ◌==◌, nat_lt, Bool, true, false, List, [], ◌∷◌, length, get_or, set, get_or-set_same, get_or-set_other, Option, Some, None, is_some, count_by, refl, ap, sym, arith, inl, inr}
use Rattle.std.proofs.lemmas.Bool.{false≢true, cases_lt, cases_eq, eq-eqb, ne_eqb, lt-ltb}
use Rattle.std.proofs.lemmas.Bool.Decides.{nat_tests, eqb_tells}
use Rattle.std.proofs.lemmas.List.{get_or_past}
use Rattle.std.proofs.lemmas.List.Sums.{sum_by-cons, sum_by-set, sum_by-le-sum_by, get_or-le-sum_by}
use Rattle.slab.specs.Slab.{Slab, get, slab_len}
use Rattle.page_tables.specs.declared.table.Table.{Table}
use Rattle.page_tables.specs.declared.pool.Page.{Page}
use Rattle.page_tables.specs.Table.{entry_at}
use Rattle.page_tables.specs.Contents.{PageValue, sum_below, page_total}
use Rattle.page_tables.specs.Sharing.{has, slot_entry, AreShared, pages_in}
use Rattle.page_tables.proofs.Sharing.{one_if, count_is, has_key, found}
use Rattle.page_tables.proofs.Values.{page_mapped, page_unmapped}
use Rattle.page_tables.proofs.PlacedPages.{no_shares}

-- ---- sums

pub sum_none : (f : ℕ → ℕ) → sum_below 0 f ≡ 0
unfolding sum_below
sum_none f = refl

pub sum_more : (n : ℕ) (f : ℕ → ℕ) → sum_below (suc n) f ≡ sum_below n f + f n
unfolding sum_below
sum_more n f = refl

pub sum_same : (n : ℕ) (f g : ℕ → ℕ) → ((q : ℕ) → q < n → f q ≡ g q) → sum_below n f ≡ sum_below n g
sum_same zero f g h = sum_none f ∙ sym (sum_none g)
sum_same (suc n) f g h = omega (arith, sum_more n f, sum_more n g, sum_same n f g (λ q l. h q (omega (arith, l))), h n (omega arith))

pub sum_zero : (n : ℕ) (f : ℕ → ℕ) → ((q : ℕ) → q < n → f q ≡ 0) → sum_below n f ≡ 0
sum_zero zero f h = sum_none f
sum_zero (suc n) f h = omega (arith, sum_more n f, sum_zero n f (λ q l. h q (omega (arith, l))), h n (omega arith))

-- sums of functions that differ at one number
pub sum_changed : (n k : ℕ) (f g : ℕ → ℕ) → ((q : ℕ) → q ≢ k → g q ≡ f q) → k < n → sum_below n g + f k ≡ sum_below n f + g k
sum_changed zero k f g h l = absurd (omega (arith, l))
sum_changed (suc n) k f g h l = elim (eqb_tells n k) [
  | inl w ↦
      let below : sum_below n g ≡ sum_below n f = sum_same n g f (λ q b. h q (λ e. absurd (omega (arith, b, e, w.1)))) in
      let f_is : f n ≡ f k = ap f w.1 in
      let g_is : g n ≡ g k = ap g w.1 in
      omega (arith, sum_more n f, sum_more n g, below, f_is, g_is)
  | inr w ↦ omega (arith, sum_more n f, sum_more n g, h n w.1, sum_changed n k f g h (omega (arith, l, w.1)))
]

-- a function that has nothing from a number on
pub sum_past : (m n : ℕ) (f : ℕ → ℕ) → m ≤ n → ((q : ℕ) → m ≤ q → f q ≡ 0) → sum_below n f ≡ sum_below m f
sum_past m zero f l h = let none : m ≡ 0 = omega (arith, l) in ap (λ (k : ℕ). sum_below k f) (sym none)
sum_past m (suc n) f l h = elim (cases_lt n m) [
  | inl w ↦ let all : suc n ≡ m = omega (arith, l, w) in ap (λ (k : ℕ). sum_below k f) all
  | inr w ↦ omega (arith, sum_more n f, sum_past m n f w h, h n w)
]

-- a function that has something in a range alone
sum_in : (first count : ℕ) (f g : ℕ → ℕ) → ((q : ℕ) → q < first → f q ≡ 0) → ((k : ℕ) → k < count → f (first + k) ≡ g k) →
    sum_below (first + count) f ≡ sum_below count g
sum_in first zero f g below here =
    let end : first + 0 ≡ first = omega arith in
    ap (λ (k : ℕ). sum_below k f) end ∙ sum_zero first f below ∙ sym (sum_none g)
sum_in first (suc count) f g below here =
    let end : first + suc count ≡ suc (first + count) = omega arith in
    let whole : sum_below (first + suc count) f ≡ sum_below (suc (first + count)) f = ap (λ (k : ℕ). sum_below k f) end in
    omega (
      arith,
      whole,
      sum_more (first + count) f,
      sum_more count g,
      sum_in first count f g below (λ k l. here k (omega (arith, l))),
      here count (omega arith),
    )

pub sum_range : (limit first count : ℕ) (f g : ℕ → ℕ) → first + count ≤ limit → ((q : ℕ) → q < first → f q ≡ 0) →
    ((q : ℕ) → first + count ≤ q → f q ≡ 0) → ((k : ℕ) → k < count → f (first + k) ≡ g k) →
    sum_below limit f ≡ sum_below count g
sum_range limit first count f g fits below above here = sum_past (first + count) limit f fits above ∙ sum_in first count f g below here

-- ---- slots that pass a test

count_none : (P : Option Page → Bool) (slots : List (Option Page)) → ((i : ℕ) → P (get_or slots i None) ≡ false) → count_by P slots ≡ 0
count_none P [] h = refl
count_none P (s ∷ slots) h =
    let f : Option Page → ℕ = λ s. one_if (P s) in
    let first : f s ≡ 0 = ap one_if (h 0) in
    omega (arith, sum_by-cons f s slots, first, count_none P slots (λ i. h (suc i)))

count_alike : (P Q : Option Page → Bool) (slots : List (Option Page)) → ((i : ℕ) → P (get_or slots i None) ≡ Q (get_or slots i None)) →
    count_by P slots ≡ count_by Q slots
count_alike P Q [] h = refl
count_alike P Q (s ∷ slots) h =
    let f : Option Page → ℕ = λ s. one_if (P s) in
    let g : Option Page → ℕ = λ s. one_if (Q s) in
    let first : f s ≡ g s = ap one_if (h 0) in
    omega (arith, sum_by-cons f s slots, sum_by-cons g s slots, first, count_alike P Q slots (λ i. h (suc i)))

-- one slot passes, or one alone
count_some : (P : Option Page → Bool) (slots : List (Option Page)) (k : ℕ) → P None ≡ false → P (get_or slots k None) ≡ true →
    1 ≤ count_by P slots
count_some P slots k none here =
    let f : Option Page → ℕ = λ s. one_if (P s) in
    let one : f (get_or slots k None) ≡ 1 = ap one_if here in
    elim (cases_lt k (length slots)) [
      | inl w ↦ omega (arith, get_or-le-sum_by f slots k None w, one)
      | inr w ↦ absurd (false≢true (sym none ∙ ap P (sym (get_or_past slots k None w)) ∙ here))
    ]

count_one : (P : Option Page → Bool) (slots : List (Option Page)) (k : ℕ) → P None ≡ false → P (get_or slots k None) ≡ true →
    ((i : ℕ) → i ≢ k → P (get_or slots i None) ≡ false) → count_by P slots ≡ 1
count_one P slots k none here others = elim (cases_lt k (length slots)) [
  | inl w ↦
      let f : Option Page → ℕ = λ s. one_if (P s) in
      let mine : f (get_or slots k None) ≡ 1 = ap one_if here in
      let nothing : f None ≡ 0 = ap one_if none in
      omega (arith, sum_by-set f slots k None None w, count_none P (set slots k None) (without w), mine, nothing)
  | inr w ↦ absurd (false≢true (sym none ∙ ap P (sym (get_or_past slots k None w)) ∙ here))
] where
  without : k < length slots → (i : ℕ) → P (get_or (set slots k None) i None) ≡ false
  without w i = elim (cases_eq i k) [
    | inl e ↦ ap P (ap (λ (j : ℕ). get_or (set slots k None) j None) e ∙ get_or-set_same slots k None None w) ∙ none
    | inr e ↦ ap P (get_or-set_other slots k i None None e) ∙ others i e
  ]

-- ---- pages by their numbers

abbrev is_numbered : ℕ → Option Page → Bool
is_numbered n None = false
is_numbered n (Some p) = p.number == n

abbrev is_below : ℕ → Option Page → Bool
is_below n None = false
is_below n (Some p) = nat_lt p.number n

one_number_more : (n : ℕ) (slots : List (Option Page)) →
    count_by (is_below (suc n)) slots ≡ count_by (is_below n) slots + count_by (is_numbered n) slots
one_number_more n [] = refl
one_number_more n (s ∷ slots) =
    let f : Option Page → ℕ = λ s. one_if (is_below (suc n) s) in
    let g : Option Page → ℕ = λ s. one_if (is_below n s) in
    let h : Option Page → ℕ = λ s. one_if (is_numbered n s) in
    let first : f s ≡ g s + h s = at s in
    omega (arith, sum_by-cons f s slots, sum_by-cons g s slots, sum_by-cons h s slots, first, one_number_more n slots) where
      at : (s : Option Page) → one_if (is_below (suc n) s) ≡ one_if (is_below n s) + one_if (is_numbered n s)
      at None = refl
      at (Some p) = grind (arith, nat_tests)

none_below : (slots : List (Option Page)) → count_by (is_below 0) slots ≡ 0
none_below slots = count_none (is_below 0) slots (λ i. at (get_or slots i None)) where
  at : (s : Option Page) → is_below 0 s ≡ false
  at None = refl
  at (Some p) = grind (arith, nat_tests)

below_some : (n : ℕ) (s : Option Page) → one_if (is_below n s) ≤ one_if (is_some s)
below_some n None = omega arith
below_some n (Some p) = at_most (nat_lt p.number n) where
  at_most : (b : Bool) → one_if b ≤ 1
  at_most true = omega arith
  at_most false = omega arith

module _ (pool : Slab Page) (table : Table) (kept : List (Option Table)) (h : AreShared (get pool) (entry_at table) kept) where
  -- a number has a page where its entry is of one
  has_page : (n : ℕ) → one_if (is_some (pages_in (get pool) (entry_at table) n)) ≡ one_if (entry_at table n).mapped
  has_page n = by_test (entry_at table n).mapped refl where
    by_test : (b : Bool) → (entry_at table n).mapped ≡ b → one_if (is_some (pages_in (get pool) (entry_at table) n)) ≡ one_if b
    by_test true m = let f =
        found (get pool) (entry_at table) n h.current m in
        ap (λ (o : Option PageValue). one_if (is_some o)) (page_mapped (get pool) (entry_at table) n f.0 m f.1)
    by_test false m = ap (λ (o : Option PageValue). one_if (is_some o)) (page_unmapped (get pool) (entry_at table) n m)

  total_is : page_total (pages_in (get pool) (entry_at table)) ≡ sum_below 0x80000 (λ n. one_if (entry_at table n).mapped)
  total_is = sum_same 0x80000 (λ n. one_if (is_some (pages_in (get pool) (entry_at table) n))) (λ n. one_if (entry_at table n).mapped)
      (λ n l. has_page n)

  -- the page of an entry has its number
  numbered : (n : ℕ) → (entry_at table n).mapped ≡ true → is_numbered n (get pool (entry_at table n).key) ≡ true
  numbered n m = let f = found (get pool) (entry_at table) n h.current m in ap (is_numbered n) f.1 ∙ eq-eqb f.0.number n f.2

  numbered_some : (n : ℕ) → one_if (entry_at table n).mapped ≤ count_by (is_numbered n) pool.slots
  numbered_some n = by_test (entry_at table n).mapped refl where
    by_test : (b : Bool) → (entry_at table n).mapped ≡ b → one_if b ≤ count_by (is_numbered n) pool.slots
    by_test true m = count_some (is_numbered n) pool.slots (entry_at table n).key refl (numbered n m)
    by_test false m = omega arith

  some_below : (n : ℕ) → sum_below n (λ q. one_if (entry_at table q).mapped) ≤ count_by (is_below n) pool.slots
  some_below zero = omega (arith, sum_none (λ q. one_if (entry_at table q).mapped))
  some_below (suc n) =
      omega (arith, sum_more n (λ q. one_if (entry_at table q).mapped), one_number_more n pool.slots, some_below n, numbered_some n)

  -- there are as many pages as the current table has, at the least
  pub least_live : page_total (pages_in (get pool) (entry_at table)) ≤ slab_len pool
  least_live =
      let f : Option Page → ℕ = λ s. one_if (is_below 0x80000 s) in
      let g : Option Page → ℕ = λ s. one_if (is_some s) in
      omega (arith, total_is, some_below 0x80000, sum_by-le-sum_by f g pool.slots (below_some 0x80000))

module _ (pool : Slab Page) (table : Table) (kept : List (Option Table)) (h : AreShared (get pool) (entry_at table) kept)
    (alone : (i : ℕ) → get_or kept i None ≡ None) where
  -- with no snapshot a page is one of the current table
  is_had : (k : ℕ) (p : Page) → get pool k ≡ Some p → ((entry_at table p.number).mapped ≡ true) × ((entry_at table p.number).key ≡ k)
  is_had k p e = by_test (has (entry_at table) p.number k) refl where
    by_test : (b : Bool) → has (entry_at table) p.number k ≡ b → ((entry_at table p.number).mapped ≡ true) ×
        ((entry_at table p.number).key ≡ k)
    by_test true t = has_key (entry_at table) p.number k t
    by_test false t =
        let count = count_is (get pool) (entry_at table) kept h k p e in
        let mine : one_if (has (entry_at table) p.number k) ≡ 0 = ap one_if t in
        let others = no_shares kept p.number k (λ i. ap (λ (s : Option Table). has (slot_entry s) p.number k) (alone i)) in
        absurd (omega (arith, count.0, count.1, mine, others))

  other_number : (n k : ℕ) (o : Option Page) → get pool k ≡ o → ((entry_at table n).mapped ≡ true → (entry_at table n).key ≡ k → ⊥) →
      is_numbered n o ≡ false
  other_number n k None e apart = refl
  other_number n k (Some p) e apart = ne_eqb p.number n (λ same.
      let had = is_had k p e in
      apart (ap (λ (q : ℕ). (entry_at table q).mapped) (sym same) ∙ had.0) (ap (λ (q : ℕ). (entry_at table q).key) (sym same) ∙ had.1))

  numbered_all : (n : ℕ) → count_by (is_numbered n) pool.slots ≡ one_if (entry_at table n).mapped
  numbered_all n = by_test (entry_at table n).mapped refl where
    by_test : (b : Bool) → (entry_at table n).mapped ≡ b → count_by (is_numbered n) pool.slots ≡ one_if b
    by_test true m = count_one (is_numbered n) pool.slots (entry_at table n).key refl (numbered pool table kept h n m)
        (λ i apart. other_number n i (get pool i) refl (λ mapped key. apart (sym key)))
    by_test false m =
        count_none (is_numbered n) pool.slots (λ i. other_number n i (get pool i) refl (λ mapped key. false≢true (sym m ∙ mapped)))

  all_below : (n : ℕ) → count_by (is_below n) pool.slots ≡ sum_below n (λ q. one_if (entry_at table q).mapped)
  all_below zero = none_below pool.slots ∙ sym (sum_none (λ q. one_if (entry_at table q).mapped))
  all_below (suc n) =
      omega (arith, sum_more n (λ q. one_if (entry_at table q).mapped), one_number_more n pool.slots, all_below n, numbered_all n)

  low_number : (k : ℕ) (o : Option Page) → get pool k ≡ o → is_below 0x80000 o ≡ is_some o
  low_number k None e = refl
  low_number k (Some p) e = lt-ltb p.number 0x80000 (h.current.low p.number (is_had k p e).0)

  -- and there are no others
  pub alone_live : slab_len pool ≡ page_total (pages_in (get pool) (entry_at table))
  alone_live =
      let low : count_by (is_below 0x80000) pool.slots ≡ slab_len pool =
      count_alike (is_below 0x80000) is_some pool.slots (λ i. low_number i (get pool i) refl) in
      sym low ∙ all_below 0x80000 ∙ sym (total_is pool table kept h)
