-- The two levels of a table.
use Rattle.std.proofs.Common.{◌≡◌, ◌≢◌, ℕ, zero, suc, ◌+◌, ◌/◌, ◌%◌, ◌<◌, ◌≤◌, ◌==◌, not, if◌then◌else◌, Bool, List, [], ◌∷◌, ◌++◌, length, get_or, set, replicate, Option, Some, None, is_some, true, false, refl, ap, ◌∙◌, sym, arith, inl, inr, get_or-set_same, get_or-set_other}
use Rattle.std.specs.Borrow.{Bor}
use Rattle.std.specs.List.{slice_get}
use Rattle.std.specs.Option.{option_copied}
use Rattle.std.specs.Slice.{IsItemAt}
use Rattle.std.proofs.lemmas.Bool.{false≢true, cases_lt, cases_eq, ne_eqb}
use Rattle.std.proofs.lemmas.List.{get_or_past, get_or-replicate, length-replicate, length-set}
use Rattle.std.proofs.lemmas.List.Sums.{sum_by-cons, sum_by-set, count_by-le-length}
use Rattle.std.proofs.lemmas.Option.{slice_get_past, slice_get-get_or}
use Rattle.std.proofs.Math.ListN.{get_or-append}
use Rattle.std.proofs.Math.Seq.{get_or-append_seam}
use Rattle.page_tables.specs.declared.table.TheConstants.{NO_PAGE, NO_LEAF}
use Rattle.page_tables.specs.declared.table.Entry.{Entry}
use Rattle.page_tables.specs.declared.table.Table.{Table}
use Rattle.page_tables.specs.Directory.{place_at, AreThere, AreApart, leaf_count}
use Rattle.page_tables.specs.Table.{entry_in, leaf_in, entry_at, has_leaf, AreAlike, Extends}

-- ---- lists

pub get_set_same : {X : Type 0} (xs : List X) (i : ℕ) (y : X) → i < length xs → slice_get (set xs i y) i ≡ Some y
get_set_same xs i y h =
    slice_get-get_or (set xs i y) i y (omega (arith, length-set xs i y)) ∙ ap Some (get_or-set_same xs i y y h)

pub get_set_other : {X : Type 0} (xs : List X) (i j : ℕ) (y : X) → j ≢ i → slice_get (set xs i y) j ≡ slice_get xs j
get_set_other xs i j y apart = elim (cases_lt j (length xs)) [
  | inl w ↦ slice_get-get_or (set xs i y) j y (omega (arith, length-set xs i y)) ∙ ap Some (get_or-set_other xs i j y y apart)
      ∙ sym (slice_get-get_or xs j y w)
  | inr w ↦ slice_get_past (set xs i y) j (omega (arith, length-set xs i y)) ∙ sym (slice_get_past xs j w)
]

pub length-push : {X : Type 0} (xs : List X) (y : X) → length (xs ++ y ∷ []) ≡ length xs + 1
length-push [] y = refl
length-push (x ∷ xs) y = omega (arith, length-push xs y)

get_push_before : {X : Type 0} (xs : List X) (y : X) (i : ℕ) → i < length xs → slice_get (xs ++ y ∷ []) i ≡ slice_get xs i
get_push_before xs y i w =
    slice_get-get_or (xs ++ y ∷ []) i y (omega (arith, length-push xs y)) ∙ ap Some (get_or-append xs (y ∷ []) y i w)
    ∙ sym (slice_get-get_or xs i y w)

get_push_here : {X : Type 0} (xs : List X) (y : X) → slice_get (xs ++ y ∷ []) (length xs) ≡ Some y
get_push_here xs y =
    slice_get-get_or (xs ++ y ∷ []) (length xs) y (omega (arith, length-push xs y)) ∙ ap Some (get_or-append_seam xs y [] y)

-- an item that a list lends, or none
pub item_at : {X : Type 0} (xs : List X) (i : ℕ) (r : Option (Bor X)) → IsItemAt xs i r → option_copied r ≡ slice_get xs i
item_at xs i None h = sym (slice_get_past xs i h.3)
item_at xs i (Some x) h = ap Some h.1 ∙ sym (slice_get-get_or xs i x.now h.3.0)

-- within a list the default isn't read
pub same_in : {X : Type 0} (xs : List X) (i : ℕ) (a b : X) → i < length xs → get_or xs i a ≡ get_or xs i b
same_in [] i a b h = absurd (omega arith)
same_in (x ∷ xs) zero a b h = refl
same_in (x ∷ xs) (suc i) a b h = same_in xs i a b (omega arith)

-- ---- directories

abbrev one_for : ℕ → ℕ
one_for place = if not (place == NO_LEAF) then 1 else 0

one_for_none : one_for NO_LEAF ≡ 0
one_for_none = refl

one_for_leaf : (place : ℕ) → place ≢ NO_LEAF → one_for place ≡ 1
one_for_leaf place some = ap (λ (b : Bool). if not b then 1 else 0) (ne_eqb place NO_LEAF some)

-- with no leaf
pub empty_place : (n row : ℕ) → place_at (replicate n NO_LEAF) row ≡ NO_LEAF
empty_place n row = elim (cases_lt row n) [
  | inl w ↦ get_or-replicate n row NO_LEAF NO_LEAF w
  | inr w ↦ get_or_past (replicate n NO_LEAF) row NO_LEAF (omega (arith, length-replicate n NO_LEAF))
]

pub count_none : (directory : List ℕ) → ((row : ℕ) → place_at directory row ≡ NO_LEAF) → leaf_count directory ≡ 0
count_none [] h = refl
count_none (place ∷ directory) h =
    let first : one_for place ≡ 0 = ap one_for (h 0) ∙ one_for_none in
    omega (arith, sum_by-cons one_for place directory, first, count_none directory (λ row. h (suc row)))

-- with one leaf more, the last, for a row that had none
module _ (directory : List ℕ) (leaves row : ℕ) (reaches : row < length directory) (there : AreThere directory leaves) where
  abbrev more : List ℕ
  more = set directory row leaves

  here : (q : ℕ) → q ≡ row → place_at more q ≡ leaves
  here q e = ap (place_at more) e ∙ get_or-set_same directory row leaves NO_LEAF reaches

  elsewhere : (q : ℕ) → q ≢ row → place_at more q ≡ place_at directory q
  elsewhere q e = get_or-set_other directory row q leaves NO_LEAF e

  below : (q : ℕ) → q ≢ row → place_at more q ≢ NO_LEAF → place_at more q < leaves
  below q e some = omega (arith, elsewhere q e, there q (λ none. some (elsewhere q e ∙ none)))

  pub there_more : AreThere (set directory row leaves) (leaves + 1)
  there_more q some = elim (cases_eq q row) [
    | inl e ↦ omega (arith, here q e)
    | inr e ↦ omega (arith, below q e some)
  ]

  pub apart_more : AreApart directory → AreApart (set directory row leaves)
  apart_more apart a b some same = elim (cases_eq a row) [
    | inl e ↦ elim (cases_eq b row) [
      | inl f ↦ e ∙ sym f
      | inr f ↦ absurd (omega (arith, same, here a e, below b f (λ none. some (same ∙ none))))
    ]
    | inr e ↦ elim (cases_eq b row) [
      | inl f ↦ absurd (omega (arith, same, here b f, below a e some))
      | inr f ↦ apart a b (λ none. some (elsewhere a e ∙ none)) (sym (elsewhere a e) ∙ same ∙ elsewhere b f)
    ]
  ]

  pub count_more : place_at directory row ≡ NO_LEAF → leaves ≢ NO_LEAF → leaf_count (set directory row leaves) ≡ leaf_count directory + 1
  count_more none some =
      let before : one_for (place_at directory row) ≡ 0 = ap one_for none ∙ one_for_none in
      omega (arith, sum_by-set one_for directory row leaves NO_LEAF reaches, before, one_for_leaf leaves some)

-- ---- tables

-- there is no page in a row with no leaf
pub no_row : (t : Table) (m : ℕ) → has_leaf t m ≡ false → (n : ℕ) → n / 1024 ≡ m / 1024 → (entry_at t n).mapped ≡ false
unfolding entry_at has_leaf
no_row t m h n same =
    ap (λ (i : ℕ). (entry_in (slice_get t.leaves.items (place_at t.directory i)) (n % 1024)).mapped) same
    ∙ by_leaf (leaf_in t.directory t.leaves.items m) h where
      by_leaf : (o : Option (List Entry)) → is_some o ≡ false → (entry_in o (n % 1024)).mapped ≡ false
      by_leaf None e = refl
      by_leaf (Some leaf) e = absurd (false≢true (sym e))

-- there are no more leaves than rows
pub few : (t : Table) → length t.leaves.items ≤ 1024
few t = omega (arith, count_by-le-length (λ place. not (place == NO_LEAF)) t.directory, t.rows, t.whole)

is_leaf : (t : Table) (place : ℕ) → place < length t.leaves.items → place ≢ NO_LEAF
is_leaf t place w e = absurd (omega (arith, few t, w, e))

pub past_rows : (t : Table) (n : ℕ) → 1024 ≤ n / 1024 → leaf_in t.directory t.leaves.items n ≡ None
past_rows t n w =
    ap (slice_get t.leaves.items) (get_or_past t.directory (n / 1024) NO_LEAF (omega (arith, t.rows)))
    ∙ slice_get_past t.leaves.items NO_LEAF (omega (arith, few t))

-- where there is room, the directory reaches, and names a leaf
pub row_within : (t : Table) (n : ℕ) → has_leaf t n ≡ true → n / 1024 < 1024
unfolding has_leaf
row_within t n h = elim (cases_lt (n / 1024) 1024) [
  | inl w ↦ w
  | inr w ↦ absurd (false≢true (ap is_some (sym (past_rows t n w)) ∙ h))
]

pub within : (t : Table) (n : ℕ) → has_leaf t n ≡ true → place_at t.directory (n / 1024) < length t.leaves.items
unfolding has_leaf
within t n h = elim (cases_lt (place_at t.directory (n / 1024)) (length t.leaves.items)) [
  | inl w ↦ w
  | inr w ↦ absurd (false≢true (ap is_some (sym (slice_get_past t.leaves.items (place_at t.directory (n / 1024)) w)) ∙ h))
]

-- and where there is none, the directory says so
pub none_here : (t : Table) (n : ℕ) → has_leaf t n ≡ false → place_at t.directory (n / 1024) ≡ NO_LEAF
unfolding has_leaf
none_here t n h = elim (cases_eq (place_at t.directory (n / 1024)) NO_LEAF) [
  | inl e ↦ e
  | inr some ↦ absurd (false≢true (sym h
      ∙ ap is_some (slice_get-get_or t.leaves.items (place_at t.directory (n / 1024)) [] (t.there (n / 1024) some))))
]

-- ---- one leaf is written

module _ (t u : Table) (n : ℕ) (old new : List Entry) (room : has_leaf t n ≡ true) (rows : u.directory ≡ t.directory)
    (written : u.leaves.items ≡ set t.leaves.items (place_at t.directory (n / 1024)) new) where
  abbrev slot : ℕ
  slot = place_at t.directory (n / 1024)

  moved : (q : ℕ) → leaf_in u.directory u.leaves.items q ≡ slice_get (set t.leaves.items slot new) (place_at t.directory (q / 1024))
  moved q =
      ap (λ (ds : List ℕ). leaf_in ds u.leaves.items q) rows
      ∙ ap (λ (ls : List (List Entry)). slice_get ls (place_at t.directory (q / 1024))) written

  same_row : (q : ℕ) → q / 1024 ≡ n / 1024 → leaf_in u.directory u.leaves.items q ≡ Some new
  same_row q same =
      moved q ∙ ap (λ (i : ℕ). slice_get (set t.leaves.items slot new) (place_at t.directory i)) same
      ∙ get_set_same t.leaves.items slot new (within t n room)

  other_row : (q : ℕ) → q / 1024 ≢ n / 1024 → leaf_in u.directory u.leaves.items q ≡ leaf_in t.directory t.leaves.items q
  other_row q apart =
      moved q
      ∙ get_set_other t.leaves.items slot (place_at t.directory (q / 1024)) new
      (λ e. apart (sym (t.apart (n / 1024) (q / 1024) (is_leaf t slot (within t n room)) (sym e))))

  pub set_room : (q : ℕ) → has_leaf u q ≡ has_leaf t q
  unfolding has_leaf
  set_room q = elim (cases_eq (q / 1024) (n / 1024)) [
    | inl w ↦ ap is_some (same_row q w) ∙ sym (ap (λ (i : ℕ). is_some (slice_get t.leaves.items (place_at t.directory i))) w ∙ room)
    | inr w ↦ ap is_some (other_row q w)
  ]

  pub set_here : (e : Entry) → new ≡ set old (n % 1024) e → length old ≡ 1024 → entry_at u n ≡ e
  unfolding entry_at
  set_here e put full =
      ap (λ (o : Option (List Entry)). entry_in o (n % 1024)) (same_row n refl)
      ∙ ap (λ (es : List Entry). get_or es (n % 1024) NO_PAGE) put
      ∙ get_or-set_same old (n % 1024) e NO_PAGE (omega arith)

  pub set_others : (e : Entry) → new ≡ set old (n % 1024) e → leaf_in t.directory t.leaves.items n ≡ Some old → (q : ℕ) → q ≢ n →
      entry_at u q ≡ entry_at t q
  unfolding entry_at
  set_others e put was q apart = elim (cases_eq (q / 1024) (n / 1024)) [
    | inl w ↦
        ap (λ (o : Option (List Entry)). entry_in o (q % 1024)) (same_row q w)
        ∙ ap (λ (es : List Entry). get_or es (q % 1024) NO_PAGE) put
        ∙ get_or-set_other old (n % 1024) (q % 1024) e NO_PAGE (λ s. apart (omega (arith, s, w)))
        ∙ sym (ap (λ (i : ℕ). entry_in (slice_get t.leaves.items (place_at t.directory i)) (q % 1024)) w
        ∙ ap (λ (o : Option (List Entry)). entry_in o (q % 1024)) was)
    | inr w ↦ ap (λ (o : Option (List Entry)). entry_in o (q % 1024)) (other_row q w)
  ]

-- ---- a leaf with no page comes

module _ (t u : Table) (n : ℕ) (leaf : List Entry) (none : has_leaf t n ≡ false) (low : n / 1024 < 1024)
    (rows : u.directory ≡ set t.directory (n / 1024) (length t.leaves.items)) (leaves : u.leaves.items ≡ t.leaves.items ++ leaf ∷ []) where
  abbrev last : ℕ
  last = length t.leaves.items

  fresh_row : (q : ℕ) → q / 1024 ≡ n / 1024 → leaf_in u.directory u.leaves.items q ≡ Some leaf
  fresh_row q same =
      ap (λ (ds : List ℕ). leaf_in ds u.leaves.items q) rows
      ∙ ap (slice_get u.leaves.items) (here t.directory last (n / 1024) (omega (arith, t.rows)) t.there (q / 1024) same)
      ∙ ap (λ (ls : List (List Entry)). slice_get ls last) leaves ∙ get_push_here t.leaves.items leaf

  kept_row : (q : ℕ) → q / 1024 ≢ n / 1024 → leaf_in u.directory u.leaves.items q ≡ leaf_in t.directory t.leaves.items q
  kept_row q apart =
      ap (λ (ds : List ℕ). leaf_in ds u.leaves.items q) rows
      ∙ ap (slice_get u.leaves.items) (elsewhere t.directory last (n / 1024) (omega (arith, t.rows)) t.there (q / 1024) apart)
      ∙ elim (cases_lt (place_at t.directory (q / 1024)) last) [
        | inl w ↦ ap (λ (ls : List (List Entry)). slice_get ls (place_at t.directory (q / 1024))) leaves
            ∙ get_push_before t.leaves.items leaf (place_at t.directory (q / 1024)) w
        | inr w ↦ elim (cases_eq (place_at t.directory (q / 1024)) NO_LEAF) [
          | inl e ↦ slice_get_past u.leaves.items (place_at t.directory (q / 1024)) (omega (arith, few u, e))
              ∙ sym (slice_get_past t.leaves.items (place_at t.directory (q / 1024)) w)
          | inr some ↦ absurd (omega (arith, w, t.there (q / 1024) some))
        ]
      ]

  pub fresh_here : has_leaf u n ≡ true
  unfolding has_leaf
  fresh_here = ap is_some (fresh_row n refl)

  pub fresh_room : (q : ℕ) → has_leaf t q ≡ true → has_leaf u q ≡ true
  unfolding has_leaf
  fresh_room q was = elim (cases_eq (q / 1024) (n / 1024)) [
    | inl w ↦ ap is_some (fresh_row q w)
    | inr w ↦ ap is_some (kept_row q w) ∙ was
  ]

  pub fresh : ((at : ℕ) → get_or leaf at NO_PAGE ≡ NO_PAGE) → (q : ℕ) → entry_at u q ≡ entry_at t q
  unfolding entry_at has_leaf
  fresh blank q = elim (cases_eq (q / 1024) (n / 1024)) [
    | inl w ↦ ap (λ (o : Option (List Entry)). entry_in o (q % 1024)) (fresh_row q w) ∙ blank (q % 1024)
        ∙ sym (ap (λ (i : ℕ). entry_in (slice_get t.leaves.items (place_at t.directory i)) (q % 1024)) w
        ∙ by_leaf (leaf_in t.directory t.leaves.items n) none)
    | inr w ↦ ap (λ (o : Option (List Entry)). entry_in o (q % 1024)) (kept_row q w)
  ] where
    by_leaf : (o : Option (List Entry)) → is_some o ≡ false → entry_in o (q % 1024) ≡ NO_PAGE
    by_leaf None e = refl
    by_leaf (Some leaf) e = absurd (false≢true (sym e))

-- ---- the same leaves in another memory

pub alike : (t u : Table) → u.directory ≡ t.directory → u.leaves.items ≡ t.leaves.items → AreAlike t u
unfolding entry_at
alike t u rows leaves =
    record {
      at = λ n. ap (λ (ds : List ℕ). entry_in (leaf_in ds u.leaves.items n) (n % 1024)) rows
          ∙ ap (λ (ls : List (List Entry)). entry_in (leaf_in t.directory ls n) (n % 1024)) leaves;
    }

pub alike_room : (t u : Table) → u.directory ≡ t.directory → u.leaves.items ≡ t.leaves.items → (n : ℕ) → has_leaf u n ≡ has_leaf t n
unfolding has_leaf
alike_room t u rows leaves n =
    ap (λ (ds : List ℕ). is_some (leaf_in ds u.leaves.items n)) rows
    ∙ ap (λ (ls : List (List Entry)). is_some (leaf_in t.directory ls n)) leaves

-- there is no page in entries that have none
pub blank : (n at : ℕ) → get_or (replicate n NO_PAGE) at NO_PAGE ≡ NO_PAGE
blank n at = elim (cases_lt at n) [
  | inl w ↦ get_or-replicate n at NO_PAGE NO_PAGE w
  | inr w ↦ get_or_past (replicate n NO_PAGE) at NO_PAGE (omega (arith, length-replicate n NO_PAGE))
]

-- where there is a page, there is room
pub mapped_leaf : (t : Table) (n : ℕ) → (entry_at t n).mapped ≡ true → has_leaf t n ≡ true
unfolding entry_at has_leaf
mapped_leaf t n m = by_leaf (leaf_in t.directory t.leaves.items n) m where
  by_leaf : (o : Option (List Entry)) → (entry_in o (n % 1024)).mapped ≡ true → is_some o ≡ true
  by_leaf None e = e
  by_leaf (Some leaf) e = refl

pub extends_more : {t u w : Table} → Extends t u → Extends u w → Extends t w
extends_more a b = record { same = record { at = λ n. b.same.at n ∙ a.same.at n }; kept = λ n was. b.kept n (a.kept n was) }
