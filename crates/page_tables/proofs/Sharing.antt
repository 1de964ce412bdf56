-- Tables that share pages: what stays so when counts change.
use Rattle.std.proofs.Common.{◌≡◌, ◌≢◌, ℕ, zero, suc, ◌+◌, ◌-◌, ◌<◌, ◌≤◌, ◌^◌, ◌==◌, Bool, true, false, ◌&&◌, if◌then◌else◌, nat_lt, List, [], ◌∷◌, ◌++◌, length, get_or, set, get_or-set_same, get_or-set_other, Option, Some, None, IfSome, IsSomeAnd, refl, ap, ◌∙◌, sym, subst, arith, inl, inr}
use Rattle.std.proofs.lemmas.Bool.{false≢true, eq-eqb, cases_lt, and_parts}
use Rattle.std.proofs.lemmas.Bool.Decides.{eqb_tells, nat_tests}
use Rattle.std.proofs.Math.ListN.{get_or-append}
use Rattle.std.proofs.Math.Seq.{get_or-append_right, get_or-append_seam}
use Rattle.std.proofs.lemmas.List.{get_or_past}
use Rattle.std.proofs.lemmas.List.Sums.{sum_by-set, sum_by_push, get_or-le-sum_by}
use Rattle.std.specs.Option.{option_map}
use Rattle.page_tables.specs.declared.table.Entry.{Entry}
use Rattle.page_tables.specs.declared.table.Table.{Table}
use Rattle.page_tables.specs.declared.pool.Page.{Page}
use Rattle.page_tables.specs.Sharing.{has, slot_entry, slot_at, sharers, IsTableOf, AreShared, value_in, pages_in, kept_in, at_count, has_below, raised, raised_by, lowered, lowered_by, IsSlotSet}
use Rattle.page_tables.specs.Table.{entry_at}
use Rattle.page_tables.specs.Contents.{FillPage}

abbrev pub one_if : Bool → ℕ
one_if b = if b then 1 else 0

-- a table has the key of its own entry
pub has_own : (t : ℕ → Entry) (n : ℕ) → (t n).mapped ≡ true → has t n (t n).key ≡ true
has_own t n m = ap (λ (b : Bool). b && ((t n).key == (t n).key)) m ∙ eq-eqb (t n).key (t n).key refl

-- a table that has a key has it in its entry
pub has_key : (t : ℕ → Entry) (n k : ℕ) → has t n k ≡ true → ((t n).mapped ≡ true) × ((t n).key ≡ k)
has_key t n k h =
    let parts = and_parts (t n).mapped ((t n).key == k) h in
    (parts.0, elim (eqb_tells (t n).key k) [ inl w ↦ w.1 | inr w ↦ absurd (false≢true (sym w.0 ∙ parts.1)) ])

-- the page of an entry
pub found : (pool : ℕ → Option Page) (t : ℕ → Entry) (n : ℕ) → IsTableOf pool t → (t n).mapped ≡ true → (p : Page) ×
    (pool (t n).key ≡ Some p) × (p.number ≡ n)
found pool t n h m = by_option (pool (t n).key) refl (h.own n m) where
  by_option : (o : Option Page) → pool (t n).key ≡ o → IsSomeAnd o (λ p. p.number ≡ n) → (p : Page) × (pool (t n).key ≡ Some p) ×
      (p.number ≡ n)
  by_option None e i = absurd i
  by_option (Some p) e i = (p, e, i)

-- the current table shares what it has, and so does a snapshot
pub current_shares : (t : ℕ → Entry) (kept : List (Option Table)) (n k : ℕ) → has t n k ≡ true → 1 ≤ sharers t kept n k
current_shares t kept n k h = let one : one_if (has t n k) ≡ 1 = ap one_if h in omega (arith, one)

pub slot_shares : (t : ℕ → Entry) (kept : List (Option Table)) (i n k : ℕ) → has (slot_at kept i) n k ≡ true → 1 ≤ sharers t kept n k
slot_shares t kept i n k h =
    let f : Option Table → ℕ = λ s. one_if (has (slot_entry s) n k) in
    let one : f (get_or kept i None) ≡ 1 = ap one_if h in
    elim (cases_lt i (length kept)) [
      | inl w ↦ omega (arith, get_or-le-sum_by f kept i None w, one)
      | inr w ↦ absurd (false≢true (sym (ap (λ (s : Option Table). has (slot_entry s) n k) (get_or_past kept i None w)) ∙ h))
    ]

-- with one sharer there is no other
pub alone : (t : ℕ → Entry) (kept : List (Option Table)) (n k : ℕ) → sharers t kept n k ≡ 1 → has t n k ≡ true → (i : ℕ) →
    has (slot_at kept i) n k ≡ false
alone t kept n k count h i = by_test (has (slot_at kept i) n k) refl where
  by_test : (b : Bool) → has (slot_at kept i) n k ≡ b → b ≡ false
  by_test false e = refl
  by_test true e =
      let f : Option Table → ℕ = λ s. one_if (has (slot_entry s) n k) in
      let one : one_if (has t n k) ≡ 1 = ap one_if h in
      let other : f (get_or kept i None) ≡ 1 = ap one_if e in
      elim (cases_lt i (length kept)) [
        | inl w ↦ absurd (omega (arith, get_or-le-sum_by f kept i None w, one, other, count))
        | inr w ↦ sym e ∙ ap (λ (s : Option Table). has (slot_entry s) n k) (get_or_past kept i None w)
      ]

-- ---- counts that settle: each page has the count that it should, and goes where that is 0

abbrev pub Settles : (ℕ → Option Page) → (ℕ → ℕ → ℕ) → (ℕ → Option Page) → Type 0
Settles pool w new = (k : ℕ) (p : Page) → pool k ≡ Some p → new k ≡ at_count (w p.number k) p

pub counted_page : (c : ℕ) (p : Page) → 1 ≤ c → at_count c p ≡ Some (record p { count = c })
counted_page zero p h = absurd (omega arith)
counted_page (suc c) p h = refl

-- a table each of whose keys keeps a sharer keeps its pages
module _ (pool new : ℕ → Option Page) (w : ℕ → ℕ → ℕ) (s : Settles pool w new) (t : ℕ → Entry) (h : IsTableOf pool t)
    (shared : (n k : ℕ) → has t n k ≡ true → 1 ≤ w n k) where
  pub settled : (n : ℕ) → (t n).mapped ≡ true → (p : Page) × (pool (t n).key ≡ Some p) × (p.number ≡ n) ×
      (new (t n).key ≡ Some (record p { count = w n (t n).key }))
  settled n m =
      let f = found pool t n h m in
      let own = has_own t n m in (
        f.0,
        f.1,
        f.2,
        s (t n).key f.0 f.1 ∙ ap (λ (q : ℕ). at_count (w q (t n).key) f.0) f.2
            ∙ counted_page (w n (t n).key) f.0 (shared n (t n).key own),
      )

  pub table_stays : IsTableOf new t
  table_stays = record {
    low = h.low;
    own = λ n m. let f = settled n m in subst (λ (o : Option Page). IsSomeAnd o (λ p. p.number ≡ n)) (sym f.3) f.2;
    none = h.none;
  }

  pub pages_stay : (n : ℕ) → pages_in new t n ≡ pages_in pool t n
  pages_stay n = by_test (t n).mapped refl where
    by_test : (b : Bool) → (t n).mapped ≡ b →
        option_map (value_in (t n)) (if b then new (t n).key else None) ≡ option_map (value_in (t n)) (if b then pool (t n).key else None)
    by_test false e = refl
    by_test true e = let f = settled n e in ap (option_map (value_in (t n))) f.3 ∙ sym (ap (option_map (value_in (t n))) f.1)

-- ---- a slot that is set

abbrev shares_of : ℕ → ℕ → Option Table → ℕ
shares_of n k s = one_if (has (slot_entry s) n k)

pub slot_set : (kept : List (Option Table)) (i : ℕ) (slot : Option Table) → i < length kept → IsSlotSet i slot kept (set kept i slot)
slot_set kept i slot h = record {
  here = get_or-set_same kept i slot None h;
  others = λ j apart. get_or-set_other kept i j slot None apart;
  shares = λ n k. sum_by-set (shares_of n k) kept i slot None h;
}

pub slot_pushed : (kept : List (Option Table)) (i : ℕ) (slot : Option Table) → length kept ≡ i → IsSlotSet i slot kept (kept ++ slot ∷ [])
slot_pushed kept i slot e = record {
  here = ap (λ (j : ℕ). get_or (kept ++ slot ∷ []) j None) (sym e) ∙ get_or-append_seam kept slot [] None;
  others = others;
  shares = λ n k.
      let none : shares_of n k (get_or kept i None) ≡ 0 = ap (shares_of n k) (get_or_past kept i None (omega (arith, e))) in
      omega (arith, sum_by_push (shares_of n k) kept slot, none);
} where
  nothing_in : (j : ℕ) → j ≢ 0 → get_or (slot ∷ []) j None ≡ None
  nothing_in zero apart = absurd (apart refl)
  nothing_in (suc j) apart = refl

  others : (j : ℕ) → j ≢ i → get_or (kept ++ slot ∷ []) j None ≡ get_or kept j None
  others j apart = elim (cases_lt j (length kept)) [
    | inl w ↦ get_or-append kept (slot ∷ []) None j w
    | inr w ↦ get_or-append_right kept (slot ∷ []) j None w ∙ nothing_in (j - length kept) (λ z. apart (omega (arith, z, w, e)))
        ∙ sym (get_or_past kept j None w)
  ]

-- ---- tables over a pool whose counts settle

pub shared_after : (pool new : ℕ → Option Page) (t : ℕ → Entry) (kept : List (Option Table)) → Settles pool (sharers t kept) new →
    ((k : ℕ) → pool k ≡ None → new k ≡ None) →
    IsTableOf pool t → ((i : ℕ) → IsTableOf pool (slot_at kept i)) → length kept < 2 ^ 32 - 1 →
    ((k : ℕ) → IfSome (pool k) (λ p. FillPage p.bytes.value)) → AreShared new t kept
shared_after pool new t kept s none h hs few full = record {
  current = table_stays pool new (sharers t kept) s t h (current_shares t kept);
  slots = λ i. table_stays pool new (sharers t kept) s (slot_at kept i) (hs i) (slot_shares t kept i);
  counted = λ k. by_page k (pool k) refl;
  few = few;
  filled = λ k. filled_page k (pool k) refl (full k);
} where
  filled_count : (p : Page) (c : ℕ) → FillPage p.bytes.value → IfSome (at_count c p) (λ q. FillPage q.bytes.value)
  filled_count p zero i = tt
  filled_count p (suc c) i = i

  filled_page : (k : ℕ) (o : Option Page) → pool k ≡ o → IfSome o (λ p. FillPage p.bytes.value) →
      IfSome (new k) (λ p. FillPage p.bytes.value)
  filled_page k None e i = subst (λ (o : Option Page). IfSome o (λ p. FillPage p.bytes.value)) (sym (none k e)) tt
  filled_page k (Some p) e i =
      subst (λ (o : Option Page). IfSome o (λ p. FillPage p.bytes.value)) (sym (s k p e)) (filled_count p (sharers t kept p.number k) i)

  by_count : (k : ℕ) (p : Page) (c : ℕ) → sharers t kept p.number k ≡ c →
      IfSome (at_count c p) (λ q. (q.count ≡ sharers t kept q.number k) × (1 ≤ q.count))
  by_count k p zero e = tt
  by_count k p (suc c) e = (sym e, omega arith)

  by_page : (k : ℕ) (o : Option Page) → pool k ≡ o → IfSome (new k) (λ p. (p.count ≡ sharers t kept p.number k) × (1 ≤ p.count))
  by_page k None e = subst (λ (o : Option Page). IfSome o (λ p. (p.count ≡ sharers t kept p.number k) × (1 ≤ p.count))) (sym (none k e)) tt
  by_page k (Some p) e =
      subst (λ (o : Option Page). IfSome o (λ p. (p.count ≡ sharers t kept p.number k) × (1 ≤ p.count))) (sym (s k p e))
      (by_count k p (sharers t kept p.number k) refl)

-- the count of a page of the pool
pub count_is : (pool : ℕ → Option Page) (t : ℕ → Entry) (kept : List (Option Table)) → AreShared pool t kept → (k : ℕ) (p : Page) →
    pool k ≡ Some p → (p.count ≡ sharers t kept p.number k) × (1 ≤ p.count)
count_is pool t kept h k p e =
    subst (λ (o : Option Page). IfSome o (λ p. (p.count ≡ sharers t kept p.number k) × (1 ≤ p.count))) e (h.counted k)

-- the test whether a table has a key, below the end of all pages
pub below_end : (pool : ℕ → Option Page) (t : ℕ → Entry) → IsTableOf pool t → (k number : ℕ) → has_below t 0x80000 k number ≡ has t number k
below_end pool t h k number = by_test (has t number k) refl where
  by_test : (b : Bool) → has t number k ≡ b → (nat_lt number 0x80000 && b) ≡ b
  by_test false e = grind (arith, nat_tests)
  by_test true e = let low = h.low number (has_key t number k e).0 in grind (arith, nat_tests)

-- counts that are raised settle at one sharer more
pub raised_settles : (pool : ℕ → Option Page) (t u : ℕ → Entry) (w v : ℕ → ℕ → ℕ) → IsTableOf pool u →
    ((k : ℕ) (p : Page) → pool k ≡ Some p → (p.count ≡ w p.number k) × (1 ≤ p.count)) → ((n k : ℕ) → v n k ≡ w n k + one_if (has u n k)) →
    (new : ℕ → Option Page) → ((k : ℕ) → new k ≡ raised_by u 0x80000 k (pool k)) → Settles pool v new
raised_settles pool t u w v h counted more new is k p e =
    is k ∙ ap (raised_by u 0x80000 k) e ∙ ap (λ (b : Bool). if b then raised (Some p) else Some p) (below_end pool u h k p.number)
    ∙ by_test (has u p.number k) (more p.number k) where
      by_test : (b : Bool) → v p.number k ≡ w p.number k + one_if b → (if b then raised (Some p) else Some p) ≡ at_count (v p.number k) p
      by_test true m =
          sym (ap (λ (c : ℕ). at_count c p) (m ∙ ap (λ (c : ℕ). c + 1) (sym (counted k p e).0))
          ∙ counted_page (p.count + 1) p (omega arith))
      by_test false m =
          let same : v p.number k ≡ p.count = omega (arith, m, (counted k p e).0) in
          sym (ap (λ (c : ℕ). at_count c p) same ∙ counted_page p.count p (counted k p e).1)

-- counts that are lowered settle at one sharer less
pub lowered_settles : (pool : ℕ → Option Page) (u : ℕ → Entry) (w v : ℕ → ℕ → ℕ) → IsTableOf pool u →
    ((k : ℕ) (p : Page) → pool k ≡ Some p → (p.count ≡ w p.number k) × (1 ≤ p.count)) → ((n k : ℕ) → v n k + one_if (has u n k) ≡ w n k) →
    (new : ℕ → Option Page) → ((k : ℕ) → new k ≡ lowered_by u 0x80000 k (pool k)) → Settles pool v new
lowered_settles pool u w v h counted less new is k p e =
    is k ∙ ap (lowered_by u 0x80000 k) e ∙ ap (λ (b : Bool). if b then lowered (Some p) else Some p) (below_end pool u h k p.number)
    ∙ by_test (has u p.number k) (less p.number k) where
      by_test : (b : Bool) → v p.number k + one_if b ≡ w p.number k → (if b then lowered (Some p) else Some p) ≡ at_count (v p.number k) p
      by_test true m = let same : p.count - 1 ≡ v p.number k = omega (arith, m, (counted k p e).0) in ap (λ (c : ℕ). at_count c p) same
      by_test false m =
          let same : v p.number k ≡ p.count = omega (arith, m, (counted k p e).0) in
          sym (ap (λ (c : ℕ). at_count c p) same ∙ counted_page p.count p (counted k p e).1)

pub kept_pages_stay : (pool new : ℕ → Option Page) (kept later : List (Option Table)) (j : ℕ) → get_or later j None ≡ get_or kept j None →
    ((n : ℕ) → pages_in new (slot_at kept j) n ≡ pages_in pool (slot_at kept j) n) → kept_in new later j ≡ kept_in pool kept j
kept_pages_stay pool new kept later j same stay =
    ap (option_map (λ t. pages_in new (entry_at t))) same ∙ by_slot (get_or kept j None) stay where
      by_slot : (o : Option Table) → ((n : ℕ) → pages_in new (slot_entry o) n ≡ pages_in pool (slot_entry o) n) →
          option_map (λ t. pages_in new (entry_at t)) o ≡ option_map (λ t. pages_in pool (entry_at t)) o
      by_slot None s = refl
      by_slot (Some t) s = λ i. Some (λ n. s n i)
