-- The pages on which two memories differ.
use Rattle.std.proofs.Common.{refl, ◌≡◌, ◌≢◌, ◌⊎◌, ℕ, zero, suc, ◌+◌, ◌*◌, ◌%◌, ◌<◌, ◌≤◌, List, [], ◌∷◌, ◌++◌, length, Option, Some, None, IfSome, IsSome, IsSomeAnd, is_some, ap, ◌∙◌, sym, subst, arith, slice_index, Contains, inl, inr, length-append}
use Rattle.std.proofs.lemmas.Bool.{false≢true, cases_lt}
use Rattle.std.proofs.lemmas.Bool.Decides.{eqb_tells}
use Rattle.std.proofs.lemmas.List.{get_or_append_left}
use Rattle.std.proofs.lemmas.List.Elements.{Contains-append_left, Contains-append_right, Contains-append_cases, Contains-get_or}
use Rattle.std.proofs.Math.Seq.{get_or-append_seam}
use Rattle.std.proofs.lemmas.Grind.{same_number_lists}
use Rattle.std.specs.Option.{option_map}
use Rattle.std.specs.List.Sorted.{IsStrictlyIncreasing}
use Rattle.rrv_model.specs.Memory.{byte_or_zero}
use Rattle.page_tables.specs.Contents.{PageValue}
use Rattle.guest_pages.specs.Space.{PageMap, page_at, memory_in, snapshots_in, cell_in, IsPage, AreEachPage}
use Rattle.guest_pages.specs.Mapping.{SameAt, ListsOthers}
use Rattle.guest_pages.specs.Snapshots.{SameOn, DifferOn, AreChanges}
use Rattle.guest_pages.proofs.Facts.{none_high}
use Rattle.guest_pages.proofs.SameMemory.{in_page, same_page, pages_of_same, permissions_or}

-- ---- a list of the numbers that don't have a property

pub lists_none : (P : ℕ → Type 0) → ListsOthers P 0 []
lists_none P = record {
  rising = λ k l. absurd (omega arith);
  below = λ q c. absurd (omega (arith, c.1));
  fail = λ q c. absurd (omega (arith, c.1));
  pass = λ q l. absurd (omega arith);
}

pub one_passes : (P : ℕ → Type 0) (n : ℕ) (xs : List ℕ) → ListsOthers P n xs → P n → ListsOthers P (n + 1) xs
one_passes P n xs h here = record {
  rising = h.rising;
  below = λ q c. omega (arith, h.below q c);
  fail = h.fail;
  pass = λ q l out. elim (eqb_tells n q) [
    | inl w ↦ subst P w.1 here
    | inr w ↦ h.pass q (omega (arith, w.1)) out
  ];
}

-- so do some numbers that have it
pub more_pass : (P : ℕ → Type 0) (n m : ℕ) (xs : List ℕ) → ListsOthers P n xs → n ≤ m → ((q : ℕ) → n ≤ q → q < m → P q) → ListsOthers P m xs
more_pass P n m xs h on pass = record {
  rising = h.rising;
  below = λ q c. omega (arith, on, h.below q c);
  fail = h.fail;
  pass = λ q l out. elim (cases_lt q n) [
    | inl w ↦ h.pass q w out
    | inr w ↦ pass q (omega (arith, w)) l
  ];
}

only_one : (n q : ℕ) → Contains (n ∷ []) q → n ≡ q
only_one n q (zero, l, e) = e
only_one n q (suc k, l, e) = absurd (omega arith)

rises : (n : ℕ) (xs : List ℕ) → IsStrictlyIncreasing xs → ((q : ℕ) → Contains xs q → q < n) → IsStrictlyIncreasing (xs ++ n ∷ [])
rises n xs rising below k l =
    let within : k < length xs = omega (arith, length-append xs (n ∷ [])) in
    let here : slice_index (xs ++ n ∷ []) k ≡ slice_index xs k = get_or_append_left xs (n ∷ []) 0 k within in
    elim (cases_lt (k + 1) (length xs)) [
      | inl w ↦
          let next : slice_index (xs ++ n ∷ []) (k + 1) ≡ slice_index xs (k + 1) = get_or_append_left xs (n ∷ []) 0 (k + 1) w in
          let step : slice_index xs k < slice_index xs (k + 1) = rising k w in
          rw (here, next) step
      | inr w ↦
          let last : k + 1 ≡ length xs = omega arith in
          let next : slice_index (xs ++ n ∷ []) (k + 1) ≡ n = ap (slice_index (xs ++ n ∷ [])) last ∙ get_or-append_seam xs n [] 0 in
          let step : slice_index xs k < n = below (slice_index xs k) (Contains-get_or xs k 0 within) in
          rw (here, next) step
    ]

pub one_fails_too : (P : ℕ → Type 0) (n : ℕ) (xs : List ℕ) → ListsOthers P n xs → (P n → ⊥) → ListsOthers P (n + 1) (xs ++ n ∷ [])
one_fails_too P n xs h here = record {
  rising = rises n xs h.rising h.below;
  below = λ q c. elim (Contains-append_cases xs (n ∷ []) q c) [
    | inl d ↦ omega (arith, h.below q d)
    | inr d ↦ omega (arith, only_one n q d)
  ];
  fail = λ q c. elim (Contains-append_cases xs (n ∷ []) q c) [
    | inl d ↦ h.fail q d
    | inr d ↦ subst (λ (k : ℕ). P k → ⊥) (only_one n q d) here
  ];
  pass = λ q l out. elim (eqb_tells n q) [
    | inl w ↦ absurd (out (Contains-append_right xs (n ∷ []) q (0, omega arith, w.1)))
    | inr w ↦ h.pass q (omega (arith, w.1)) (λ c. out (Contains-append_left xs (n ∷ []) q c))
  ];
}

-- ---- pages that differ have a cell that does

-- two functions are the same below n, or differ at a place
first_difference : (n : ℕ) (f g : ℕ → ℕ) → ((k : ℕ) → k < n → f k ≡ g k) ⊎ ((k : ℕ) × (k < n) × (f k ≢ g k))
first_difference zero f g = inl (λ k l. absurd (omega arith))
first_difference (suc n) f g = elim (eqb_tells (f n) (g n)) [
  | inl w ↦ elim (first_difference n f g) [
    | inl same ↦ inl (λ k l. elim (eqb_tells n k) [
      | inl v ↦ subst (λ j. f j ≡ g j) v.1 w.1
      | inr v ↦ same k (omega (arith, v.1))
    ])
    | inr d ↦ inr (d.0, omega (arith, d.1), d.2)
  ]
  | inr w ↦ inr (n, omega arith, w.1)
]

differ_in_page : (n : ℕ) (p q : Option PageValue) → IfSome p (IsPage n) → IfSome q (IsPage n) → (p ≡ q → ⊥) →
    (k : ℕ) × (k < 4096) × (option_map (cell_in k) p ≢ option_map (cell_in k) q)
differ_in_page n None None hp hq apart = absurd (apart refl)
differ_in_page n None (Some q) hp hq apart = (0, omega arith, λ e. false≢true (ap is_some e))
differ_in_page n (Some p) None hp hq apart = (0, omega arith, λ e. false≢true (sym (ap is_some e)))
differ_in_page n (Some p) (Some q) hp hq apart = elim (first_difference 4096 (slice_index p.bytes) (slice_index q.bytes)) [
  | inl same ↦
      let bytes : p.bytes ≡ q.bytes =
      same_number_lists p.bytes q.bytes (hp.full ∙ sym hq.full) (λ k l. same k (omega (arith, l, hp.full))) in
      (0, omega arith, λ e. apart (ap Some (same_page p q (ap (permissions_or p.permissions) e) bytes)))
  | inr d ↦ (d.0, d.1, λ e. d.2 (ap byte_or_zero e))
]

-- ---- the changes between two memories in pages

differ_on : (a b : PageMap) → AreEachPage a → AreEachPage b → (n : ℕ) → (SameAt a b n → ⊥) →
    DifferOn n (memory_in a) (memory_in b)
differ_on a b ha hb n apart =
    let d = differ_in_page n (page_at a n) (page_at b n) (ha n) (hb n) apart in
    (n * 4096 + d.0, omega (arith, d.1), λ e. d.2 (sym (in_page a n d.0 d.1) ∙ e ∙ in_page b n d.0 d.1))

same_on : (a b : PageMap) (n : ℕ) → SameAt a b n → SameOn n (memory_in a) (memory_in b)
unfolding memory_in
same_on a b n same x place = ap (option_map (cell_in (x % 4096))) (subst (λ (q : ℕ). SameAt a b q) (sym place) same)

pub lists_changes : (a b : PageMap) → AreEachPage a → AreEachPage b → (xs : List ℕ) → ListsOthers (SameAt a b) 0x80000 xs →
    AreChanges (memory_in a) (memory_in b) xs
lists_changes a b ha hb xs h = record {
  rising = h.rising;
  differ = λ n c. differ_on a b ha hb n (h.fail n c);
  others = λ n out. elim (cases_lt n 0x80000) [
    | inl w ↦ same_on a b n (h.pass n w out)
    | inr w ↦ λ x place. none_high a ha x (omega (arith, place)) ∙ sym (none_high b hb x (omega (arith, place)))
  ];
}

-- ---- the changes since a snapshot

pub kept_changes : (kept : ℕ → Option PageMap) (pages : PageMap) (n : ℕ) (xs : List ℕ) → ((i : ℕ) → IfSome (kept i) AreEachPage) →
    AreEachPage pages →
    IsSomeAnd (kept n) (λ before. ListsOthers (SameAt before pages) 0x80000 xs) →
    IsSomeAnd (snapshots_in kept n) (λ before. AreChanges before (memory_in pages) xs)
unfolding snapshots_in
kept_changes kept pages n xs each h listed = by_slot (kept n) (each n) listed where
  by_slot : (o : Option PageMap) → IfSome o AreEachPage → IsSomeAnd o (λ before. ListsOthers (SameAt before pages) 0x80000 xs) →
      IsSomeAnd (option_map memory_in o) (λ before. AreChanges before (memory_in pages) xs)
  by_slot None i l = l
  by_slot (Some before) i l = lists_changes before pages i h xs l

pub differs : (kept : ℕ → Option PageMap) (pages : PageMap) (n : ℕ) → ((i : ℕ) → IfSome (kept i) AreEachPage) → AreEachPage pages →
    IsSomeAnd (kept n) (λ before. (q : ℕ) × (SameAt before pages q → ⊥)) → snapshots_in kept n ≡ Some (memory_in pages) → ⊥
unfolding snapshots_in
differs kept pages n each h apart same = by_slot (kept n) (each n) apart same where
  by_slot : (o : Option PageMap) → IfSome o AreEachPage → IsSomeAnd o (λ before. (q : ℕ) × (SameAt before pages q → ⊥)) →
      option_map memory_in o ≡ Some (memory_in pages) → ⊥
  by_slot None i a e = a
  by_slot (Some before) i a e = a.1 (pages_of_same before pages i h (cc (e)) a.0)

-- nothing is listed up to the first at which either has a page
pub none_then_on : (kept : Option PageMap) (pages : PageMap) (next : ℕ) → IsSome kept →
    ((q : ℕ) → 0 ≤ q → q < next → IsSomeAnd kept (λ before. SameAt before pages q)) →
    IsSomeAnd kept (λ before. ListsOthers (SameAt before pages) next [])
none_then_on None pages next some rest = absurd (false≢true some)
none_then_on (Some before) pages next some rest =
    more_pass (SameAt before pages) 0 next [] (lists_none (SameAt before pages)) (omega arith) rest

-- one number further, and on to the next at which either has a page
pub same_then_on : (kept : Option PageMap) (pages : PageMap) (n next : ℕ) (xs : List ℕ) → n + 1 ≤ next →
    IsSomeAnd kept (λ before. ListsOthers (SameAt before pages) n xs)
    → IsSomeAnd kept (λ before. pages n ≡ before n) → ((q : ℕ) → n + 1 ≤ q → q < next → IsSomeAnd kept (λ before. SameAt before pages q))
    → IsSomeAnd kept (λ before. ListsOthers (SameAt before pages) next xs)
same_then_on None pages n next xs on listed here rest = absurd listed
same_then_on (Some before) pages n next xs on listed here rest =
    more_pass (SameAt before pages) (n + 1) next xs (one_passes (SameAt before pages) n xs listed (sym here)) on rest

pub differ_then_on : (kept : Option PageMap) (pages : PageMap) (n next : ℕ) (xs : List ℕ) → n + 1 ≤ next →
    IsSomeAnd kept (λ before. ListsOthers (SameAt before pages) n xs)
    → IsSomeAnd kept (λ before. pages n ≢ before n) → ((q : ℕ) → n + 1 ≤ q → q < next → IsSomeAnd kept (λ before. SameAt before pages q))
    → IsSomeAnd kept (λ before. ListsOthers (SameAt before pages) next (xs ++ n ∷ []))
differ_then_on None pages n next xs on listed here rest = absurd listed
differ_then_on (Some before) pages n next xs on listed here rest =
    more_pass (SameAt before pages) (n + 1) next (xs ++ n ∷ []) (one_fails_too (SameAt before pages) n xs listed (λ e. here (sym e))) on
    rest
