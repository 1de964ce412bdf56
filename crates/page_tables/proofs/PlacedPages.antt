-- A page that is taken out of the current table, and one that is put into it.
use Rattle.std.proofs.Common.{◌≡◌, ◌≢◌, ℕ, suc, ◌+◌, ◌<◌, ◌≤◌, ◌-◌, ◌==◌, ◌&&◌, Bool, true, false, List, [], ◌∷◌, ◌++◌, length, drop, Option, Some, None, IfSome, IsSome, is_some, ◌⊎◌, Result, Ok, Err, OnErr, OnOk, IsSomeAnd, refl, ap, ◌∙◌, sym, subst, arith, inl, inr, if◌then◌else◌, count_by}
use Rattle.std.proofs.lemmas.Bool.{false≢true, cases_eq, eq-eqb}
use Rattle.std.proofs.lemmas.Bool.Decides.{nat_tests, eqb_tells}
use Rattle.std.proofs.lemmas.List.Sums.{sum_by-cons}
use Rattle.std.proofs.lemmas.List.{append-nil}
use Rattle.std.proofs.lemmas.Option.{none-some, same_Some}
use Rattle.std.proofs.Math.ListN.{drop_of_length-le}
use Rattle.page_tables.proofs.Bytes.{written_is}
use Rattle.std.specs.Option.{option_map}
use Rattle.slab.specs.Slab.{Slab, get, slab_len}
use Rattle.page_permissions.specs.declared.page.Permissions.{Permissions}
use Rattle.page_tables.specs.declared.table.TheConstants.{NO_PAGE}
use Rattle.page_tables.specs.declared.table.Entry.{Entry}
use Rattle.page_tables.specs.declared.table.Table.{Table}
use Rattle.page_tables.specs.declared.pool.Page.{Page}
use Rattle.page_tables.specs.declared.page_tables.PutFault.{PutFault}
use Rattle.page_tables.specs.declared.page_tables.PutFault.TheVariants as errors
use Rattle.page_tables.specs.Table.{entry_at, AreAlike, SetsEntry}
use Rattle.page_tables.specs.Contents.{PageValue, Contents, FillPage, TablesValue, contents_of, value_of}
use Rattle.page_tables.specs.Changes.{KeepsPages, IsRemoved, IsPlaced, IsAttached, IsProtected, with_permissions, IsUnshared, IsWritten, IsRewritten, written, with_bytes, freed, added, allows_write, Adds, Rewrites, Puts, put_refusal, IsPutRefusal}
use Rattle.page_tables.specs.Sharing.{entry_has, has, slot_entry, slot_at, sharers, IsTableOf, AreShared, page_in, value_in, pages_in, counts_in, kept_in, contents_in, lowered, at_count, IsOwnKey}
use Rattle.page_tables.proofs.Sharing.{one_if, Settles, settled, pages_stay, shared_after, count_is, counted_page, current_shares, slot_shares, kept_pages_stay, has_own, has_key, found, alone}
use Rattle.page_tables.proofs.Values.{page_of, StandFor, stand, carried, seen, pages_seen, allows_mapped, page_mapped}

module _ (pool new : Slab Page) (table later : Table) (kept : List (Option Table)) (n : ℕ) (h : AreShared (get pool) (entry_at table) kept)
    (gone : (entry_at later n).mapped ≡ false) (none : (entry_at later n).permissions ≡ NO_PAGE.permissions)
    (others : (q : ℕ) → q ≢ n → entry_at later q ≡ entry_at table q)
    (is : (k : ℕ) → get new k ≡ (if has (entry_at table) n k then lowered (get pool k) else get pool k)) where
  has_not : (k : ℕ) → has (entry_at later) n k ≡ false
  has_not k = ap (λ (b : Bool). b && ((entry_at later n).key == k)) gone

  less : (k : ℕ) → sharers (entry_at later) kept n k + one_if (has (entry_at table) n k) ≡ sharers (entry_at table) kept n k
  less k = let no : one_if (has (entry_at later) n k) ≡ 0 = ap one_if (has_not k) in omega (arith, no)

  same_shares : (q k : ℕ) → q ≢ n → sharers (entry_at later) kept q k ≡ sharers (entry_at table) kept q k
  same_shares q k apart = ap (λ (e : Entry). one_if (entry_has e k) + count_by (λ s. has (slot_entry s) q k) kept) (others q apart)

  removed_settles : Settles (get pool) (sharers (entry_at later) kept) (get new)
  removed_settles k p e = by_test (has (entry_at table) n k) refl where
    counted : (p.count ≡ sharers (entry_at table) kept p.number k) × (1 ≤ p.count)
    counted = count_is (get pool) (entry_at table) kept h k p e

    by_test : (b : Bool) → has (entry_at table) n k ≡ b → get new k ≡ at_count (sharers (entry_at later) kept p.number k) p
    by_test true t =
        let own = has_key (entry_at table) n k t in
        let f = found (get pool) (entry_at table) n h.current own.0 in
        let same : Some f.0 ≡ Some p = sym f.1 ∙ ap (get pool) own.1 ∙ e in
        let number : p.number ≡ n = cc (same, f.2) in
        let one : one_if (has (entry_at table) n k) ≡ 1 = ap one_if t in
        let count : p.count ≡ sharers (entry_at table) kept n k = counted.0 ∙ ap (λ (q : ℕ). sharers (entry_at table) kept q k) number in
        let left : p.count - 1 ≡ sharers (entry_at later) kept n k = omega (arith, less k, one, count) in
        is k ∙ ap (λ (b : Bool). if b then lowered (get pool k) else get pool k) t ∙ ap lowered e
        ∙ ap (λ (c : ℕ). at_count c p) (left ∙ ap (λ (q : ℕ). sharers (entry_at later) kept q k) (sym number))
    by_test false t =
        let same : sharers (entry_at later) kept p.number k ≡ p.count = elim (cases_eq p.number n) [
          | inl w ↦
              let zero_if : one_if (has (entry_at table) n k) ≡ 0 = ap one_if t in
              ap (λ (q : ℕ). sharers (entry_at later) kept q k) w ∙ omega (arith, less k, zero_if)
              ∙ sym (counted.0 ∙ ap (λ (q : ℕ). sharers (entry_at table) kept q k) w)
          | inr w ↦ same_shares p.number k w ∙ sym counted.0
        ] in
        is k ∙ ap (λ (b : Bool). if b then lowered (get pool k) else get pool k) t ∙ e
        ∙ sym (ap (λ (c : ℕ). at_count c p) same ∙ counted_page p.count p counted.1)

  later_table : IsTableOf (get pool) (entry_at later)
  later_table = record {
    low = λ q m. let t = mapped_before q m in h.current.low q (ap (λ (e : Entry). e.mapped) (sym (others q t)) ∙ m);
    own = λ q m. let t = mapped_before q m in
        subst (λ (e : Entry). IsSomeAnd (get pool e.key) (λ p. p.number ≡ q)) (sym (others q t))
        (h.current.own q (ap (λ (e : Entry). e.mapped) (sym (others q t)) ∙ m));
    none = λ q m. elim (cases_eq q n) [
      | inl w ↦ ap (λ (i : ℕ). (entry_at later i).permissions) w ∙ none
      | inr w ↦ ap (λ (e : Entry). e.permissions) (others q w) ∙ h.current.none q (ap (λ (e : Entry). e.mapped) (sym (others q w)) ∙ m)
    ];
  } where
    mapped_before : (q : ℕ) → (entry_at later q).mapped ≡ true → q ≢ n
    mapped_before q m e = false≢true (sym gone ∙ ap (λ (i : ℕ). (entry_at later i).mapped) (sym e) ∙ m)

  pub removed_shared : AreShared (get new) (entry_at later) kept
  removed_shared = shared_after (get pool) (get new) (entry_at later) kept removed_settles nothing later_table h.slots h.few h.filled where
    nothing : (k : ℕ) → get pool k ≡ None → get new k ≡ None
    nothing k e = is k ∙ by_test (has (entry_at table) n k) where
      by_test : (b : Bool) → (if b then lowered (get pool k) else get pool k) ≡ None
      by_test true = ap lowered e
      by_test false = e

  removed_pages : (q : ℕ) → q ≢ n → pages_in (get new) (entry_at later) q ≡ pages_in (get pool) (entry_at table) q
  removed_pages q apart =
      pages_stay (get pool) (get new) (sharers (entry_at later) kept) removed_settles (entry_at later) later_table
      (current_shares (entry_at later) kept) q
      ∙ ap (λ (e : Entry). option_map (value_in e) (page_in (get pool) e)) (others q apart)

  removed_counts : (q : ℕ) → q ≢ n → counts_in (get new) (entry_at later) q ≡ counts_in (get pool) (entry_at table) q
  removed_counts q apart =
      by_test (entry_at later q).mapped refl
      ∙ ap (λ (e : Entry). option_map (λ (p : Page). p.count) (page_in (get pool) e)) (others q apart) where
        by_test : (b : Bool) → (entry_at later q).mapped ≡ b →
            option_map (λ (p : Page). p.count) (if b then get new (entry_at later q).key else None)
            ≡ option_map (λ (p : Page). p.count) (if b then get pool (entry_at later q).key else None)
        by_test false e = refl
        by_test true e =
            let f = settled (get pool) (get new) (sharers (entry_at later) kept) removed_settles (entry_at later) later_table
            (current_shares (entry_at later) kept) q e in
            let k = (entry_at later q).key in
            let count : f.0.count ≡ sharers (entry_at later) kept q k =
            (count_is (get pool) (entry_at table) kept h k f.0 f.1).0 ∙ ap (λ (i : ℕ). sharers (entry_at table) kept i k) f.2
            ∙ sym (same_shares q k apart) in
            ap (option_map (λ (p : Page). p.count)) f.3 ∙ ap Some (sym count) ∙ sym (ap (option_map (λ (p : Page). p.count)) f.1)

  pub removed_contents : slab_len new + freed (counts_in (get pool) (entry_at table) n) ≡ slab_len pool →
      IsRemoved n (contents_in pool table kept) (contents_in new later kept)
  removed_contents len = record {
    here = ap (λ (b : Bool). option_map (value_in (entry_at later n)) (if b then get new (entry_at later n).key else None)) gone;
    count = ap (λ (b : Bool). option_map (λ (p : Page). p.count) (if b then get new (entry_at later n).key else None)) gone;
    rest = record {
      pages = removed_pages;
      counts = removed_counts;
      kept = λ i j. kept_pages_stay (get pool) (get new) kept kept j refl
          (pages_stay (get pool) (get new) (sharers (entry_at later) kept) removed_settles (slot_at kept j) (h.slots j)
          (slot_shares (entry_at later) kept j)) i;
    };
    live = len;
  }

pub no_shares : (kept : List (Option Table)) (n k : ℕ) → ((i : ℕ) → has (slot_at kept i) n k ≡ false) →
    count_by (λ s. has (slot_entry s) n k) kept ≡ 0
no_shares [] n k h = refl
no_shares (s ∷ kept) n k h =
    let f : Option Table → ℕ = λ s. one_if (has (slot_entry s) n k) in
    let first : f s ≡ 0 = ap one_if (h 0) in
    omega (arith, sum_by-cons f s kept, first, no_shares kept n k (λ i. h (suc i)))

-- what is so of each page of the pool, where one page changes
changed_page : (P : ℕ → Option Page → Type 0) (pool new : Slab Page) (key : ℕ) (q : Page) → get new key ≡ Some q →
    ((k : ℕ) → k ≢ key → get new k ≡ get pool k) → P key (Some q) → ((k : ℕ) → k ≢ key → P k (get pool k)) → (k : ℕ) → P k (get new k)
changed_page P pool new key q here rest one others k = elim (cases_eq k key) [
  | inl w ↦ subst (λ (i : ℕ). P i (get new i)) (sym w) (subst (P key) (sym here) one)
  | inr w ↦ subst (P k) (sym (rest k w)) (others k w)
]

module _ {pool new : Slab Page} {table later : Table} {kept : List (Option Table)} {n key : ℕ} {e : Entry} {p : Page}
    (h : AreShared (get pool) (entry_at table) kept) (gone : (entry_at table n).mapped ≡ false) (low : n < 0x80000)
    (put : SetsEntry n e table later) (add : Adds key p pool new) (keyed : e.key ≡ key) (mapped : e.mapped ≡ true) (numbered : p.number ≡ n)
    (counted-one : p.count ≡ 1) (fits : FillPage p.bytes.value) where
  no_key : (t : ℕ → Entry) → IsTableOf (get pool) t → (q : ℕ) → (t q).mapped ≡ true → (t q).key ≢ key
  no_key t i q m same = let f = found (get pool) t q i m in false≢true (ap is_some (sym add.free ∙ ap (get pool) (sym same) ∙ f.1))

  has_no : (t : ℕ → Entry) → IsTableOf (get pool) t → (q : ℕ) → has t q key ≡ false
  has_no t i q = by_test (has t q key) refl where
    by_test : (b : Bool) → has t q key ≡ b → b ≡ false
    by_test false w = refl
    by_test true w = let own = has_key t q key w in absurd (no_key t i q own.0 own.1)

  stays : (t : ℕ → Entry) → IsTableOf (get pool) t → IsTableOf (get new) t
  stays t i = record {
    low = i.low;
    own = λ q m. subst (λ (o : Option Page). IsSomeAnd o (λ p. p.number ≡ q)) (sym (add.others (t q).key (no_key t i q m))) (i.own q m);
    none = i.none;
  }

  page_stays : (t : ℕ → Entry) → IsTableOf (get pool) t → (q : ℕ) → page_in (get new) (t q) ≡ page_in (get pool) (t q)
  page_stays t i q = by_test (t q).mapped refl where
    by_test : (b : Bool) → (t q).mapped ≡ b → (if b then get new (t q).key else None) ≡ (if b then get pool (t q).key else None)
    by_test false w = refl
    by_test true w = add.others (t q).key (no_key t i q w)

  has_here : (k : ℕ) → has (entry_at later) n k ≡ (key == k)
  has_here k = ap (λ (d : Entry). entry_has d k) put.here ∙ ap (λ (b : Bool). b && (e.key == k)) mapped ∙ ap (λ (i : ℕ). i == k) keyed

  own_shares : sharers (entry_at later) kept n key ≡ 1
  own_shares =
      let one : one_if (has (entry_at later) n key) ≡ 1 = ap one_if (has_here key ∙ eq-eqb key key refl) in
      omega (arith, one, no_shares kept n key (λ i. has_no (slot_at kept i) (h.slots i) n))

  same_share : (q k : ℕ) → k ≢ key → sharers (entry_at later) kept q k ≡ sharers (entry_at table) kept q k
  same_share q k apart = ap (λ (b : Bool). one_if b + count_by (λ s. has (slot_entry s) q k) kept) (by_number (cases_eq q n)) where
    no : (key == k) ≡ false
    no = elim (eqb_tells key k) [ inl w ↦ absurd (apart (sym w.1)) | inr w ↦ w.0 ]

    by_number : (q ≡ n) ⊎ (q ≡ n → ⊥) → has (entry_at later) q k ≡ has (entry_at table) q k
    by_number (inl w) =
        ap (λ (i : ℕ). has (entry_at later) i k) w ∙ has_here k ∙ no
        ∙ sym (ap (λ (i : ℕ). has (entry_at table) i k) w ∙ ap (λ (b : Bool). b && ((entry_at table n).key == k)) gone)
    by_number (inr w) = ap (λ (d : Entry). entry_has d k) (put.others q w)

  placed_current : IsTableOf (get new) (entry_at later)
  placed_current = record {
    low = λ q m. elim (cases_eq q n)
        [ inl w ↦ omega (arith, w, low) | inr w ↦ h.current.low q (ap (λ (d : Entry). d.mapped) (sym (put.others q w)) ∙ m) ];
    own = λ q m. elim (cases_eq q n) [
      | inl w ↦ subst (λ (i : ℕ). IsSomeAnd (get new (entry_at later i).key) (λ p. p.number ≡ i)) (sym w)
          (subst (λ (o : Option Page). IsSomeAnd o (λ p. p.number ≡ n))
          (sym (ap (λ (d : Entry). get new d.key) put.here ∙ ap (get new) keyed ∙ add.here)) numbered)
      | inr w ↦ subst (λ (d : Entry). IsSomeAnd (get new d.key) (λ p. p.number ≡ q)) (sym (put.others q w))
          ((stays (entry_at table) h.current).own q (ap (λ (d : Entry). d.mapped) (sym (put.others q w)) ∙ m))
    ];
    none = λ q m. elim (cases_eq q n) [
      | inl w ↦ absurd (false≢true (sym m ∙ ap (λ (i : ℕ). (entry_at later i).mapped) w ∙ ap (λ (d : Entry). d.mapped) put.here ∙ mapped))
      | inr w ↦ ap (λ (d : Entry). d.permissions) (put.others q w)
          ∙ h.current.none q (ap (λ (d : Entry). d.mapped) (sym (put.others q w)) ∙ m)
    ];
  }

  pub placed_shared : AreShared (get new) (entry_at later) kept
  placed_shared =
      record {
        current = placed_current;
        slots = λ i. stays (slot_at kept i) (h.slots i);
        counted = counted;
        few = h.few;
        filled = filled;
      } where
        filled : (k : ℕ) → IfSome (get new k) (λ p. FillPage p.bytes.value)
        filled = changed_page (λ k o. IfSome o (λ p. FillPage p.bytes.value)) pool new key p add.here add.others fits (λ k w. h.filled k)

        old : (k : ℕ) → k ≢ key → (o : Option Page) → get pool k ≡ o →
            IfSome o (λ p. (p.count ≡ sharers (entry_at later) kept p.number k) × (1 ≤ p.count))
        old k apart None w = tt
        old k apart (Some q) w = let c = count_is (get pool) (entry_at table) kept h k q w in (c.0 ∙ sym (same_share q.number k apart), c.1)

        one : p.count ≡ sharers (entry_at later) kept p.number key
        one = counted-one ∙ sym own_shares ∙ sym (ap (λ (i : ℕ). sharers (entry_at later) kept i key) numbered)

        counted : (k : ℕ) → IfSome (get new k) (λ p. (p.count ≡ sharers (entry_at later) kept p.number k) × (1 ≤ p.count))
        counted = changed_page (λ k o. IfSome o (λ p. (p.count ≡ sharers (entry_at later) kept p.number k) × (1 ≤ p.count))) pool new key p
            add.here add.others (one, omega (arith, counted-one)) (λ k w. old k w (get pool k) refl)

  placed_page : page_in (get new) (entry_at later n) ≡ Some p
  placed_page =
      ap (page_in (get new)) put.here ∙ ap (λ (b : Bool). if b then get new e.key else None) mapped ∙ ap (get new) keyed ∙ add.here

  pub attached_contents : IsAttached n (value_in e p) (contents_in pool table kept) (contents_in new later kept)
  attached_contents = record {
    here = ap (option_map (value_in (entry_at later n))) placed_page ∙ ap (λ (d : Entry). Some (value_in d p)) put.here;
    own = ap (option_map (λ (q : Page). q.count)) placed_page ∙ ap Some counted-one;
    rest = record {
      pages = λ q w. ap (λ (d : Entry). option_map (value_in d) (page_in (get new) d)) (put.others q w)
          ∙ ap (option_map (value_in (entry_at table q))) (page_stays (entry_at table) h.current q);
      counts = λ q w. ap (λ (d : Entry). option_map (λ (p : Page). p.count) (page_in (get new) d)) (put.others q w)
          ∙ ap (option_map (λ (p : Page). p.count)) (page_stays (entry_at table) h.current q);
      kept = λ i j. kept_pages_stay (get pool) (get new) kept kept j refl
          (λ q. ap (option_map (value_in (slot_at kept j q))) (page_stays (slot_at kept j) (h.slots j) q)) i;
    };
    live = add.len;
  }

both_one : (c : Option ℕ) → freed c + added c ≡ 1
both_one None = omega arith
both_one (Some c) = by_test (c == 1) where
  by_test : (b : Bool) → (if b then 1 else 0) + (if b then 0 else 1) ≡ 1
  by_test true = omega arith
  by_test false = omega arith

-- a page that is put where the old one was taken out
pub placed : (n : ℕ) (page : PageValue) (old mid new : Contents) → IsRemoved n old mid → IsAttached n page mid new → IsPlaced n page old new
placed n page old mid new r a = record {
  here = a.here;
  own = a.own;
  rest = record {
    pages = λ q w. a.rest.pages q w ∙ r.rest.pages q w;
    counts = λ q w. a.rest.counts q w ∙ r.rest.counts q w;
    kept = a.rest.kept ∙ r.rest.kept;
  };
  live = omega (arith, a.live, r.live, both_one (old.counts n));
}

-- ---- room that is made changes nothing

module _ {pool new : Slab Page} {table later : Table} (kept : List (Option Table)) (alike : AreAlike table later)
    (keeps : KeepsPages pool new)
  where
    tables : entry_at later ≡ entry_at table
    tables = λ i n. alike.at n i

    pools : get new ≡ get pool
    pools = λ i k. keeps.same k i

    pub roomy_shared : AreShared (get pool) (entry_at table) kept → AreShared (get new) (entry_at later) kept
    roomy_shared h =
        subst (λ (t : ℕ → Entry). AreShared (get new) t kept) (sym tables)
        (subst (λ (f : ℕ → Option Page). AreShared f (entry_at table) kept) (sym pools) h)

    pub roomy_contents : contents_in new later kept ≡ contents_in pool table kept
    roomy_contents =
        λ i. record {
          pages = pages_in (pools i) (tables i);
          counts = counts_in (pools i) (tables i);
          kept = kept_in (pools i) kept;
          live = keeps.len i;
        }

    pub roomy_value : (v : TablesValue) → value_of (contents_in pool table kept) ≡ v → value_of (contents_in new later kept) ≡ v
    roomy_value v view = ap value_of roomy_contents ∙ view

-- ---- bytes that are written into a page that no snapshot shares

module _ (pool new : Slab Page) (table : Table) (kept : List (Option Table)) (n at key : ℕ) (bs : List ℕ)
    (h : AreShared (get pool) (entry_at table) kept)
    (m : (entry_at table n).mapped ≡ true) (keyed : (entry_at table n).key ≡ key) (p q : Page) (there : get pool key ≡ Some p)
    (one : p.count ≡ 1)
    (page : get new key ≡ Some q) (is : IsRewritten (written p.bytes.value at bs) p q)
    (rest : (k : ℕ) → k ≢ key → get new k ≡ get pool k) where
  numbered : p.number ≡ n
  numbered = let f = found (get pool) (entry_at table) n h.current m in let same : Some f.0 ≡ Some p =
      sym f.1 ∙ ap (get pool) keyed ∙ there in cc (same, f.2)

  -- a table that has the page has it at its number
  at_number : (t : ℕ → Entry) → IsTableOf (get pool) t → (i : ℕ) → (t i).mapped ≡ true → (t i).key ≡ key → i ≡ n
  at_number t j i w e = let f = found (get pool) t i j w in let same : Some f.0 ≡ Some p =
      sym f.1 ∙ ap (get pool) e ∙ there in let number : f.0.number ≡ p.number = cc (same) in sym f.2 ∙ number ∙ numbered

  stays-written : (t : ℕ → Entry) → IsTableOf (get pool) t → IsTableOf (get new) t
  stays-written t j = record {
    low = j.low;
    own = λ i w. elim (cases_eq (t i).key key) [
      | inl e ↦ subst (λ (o : Option Page). IsSomeAnd o (λ p. p.number ≡ i)) (sym (ap (get new) e ∙ page))
          (is.number ∙ numbered ∙ sym (at_number t j i w e))
      | inr e ↦ subst (λ (o : Option Page). IsSomeAnd o (λ p. p.number ≡ i)) (sym (rest (t i).key e)) (j.own i w)
    ];
    none = j.none;
  }

  pub written_shared : AreShared (get new) (entry_at table) kept
  written_shared =
      record {
        current = stays-written (entry_at table) h.current;
        slots = λ i. stays-written (slot_at kept i) (h.slots i);
        counted = counted;
        few = h.few;
        filled = filled;
      } where
        filled : (k : ℕ) → IfSome (get new k) (λ p. FillPage p.bytes.value)
        filled = changed_page (λ k o. IfSome o (λ p. FillPage p.bytes.value)) pool new key q page rest is.filled (λ k w. h.filled k)

        c : (p.count ≡ sharers (entry_at table) kept p.number key) × (1 ≤ p.count)
        c = count_is (get pool) (entry_at table) kept h key p there

        same : q.count ≡ sharers (entry_at table) kept q.number key
        same = is.count ∙ c.0 ∙ sym (ap (λ (i : ℕ). sharers (entry_at table) kept i key) is.number)

        counted : (k : ℕ) → IfSome (get new k) (λ p. (p.count ≡ sharers (entry_at table) kept p.number k) × (1 ≤ p.count))
        counted = changed_page (λ k o. IfSome o (λ p. (p.count ≡ sharers (entry_at table) kept p.number k) × (1 ≤ p.count))) pool new key q
            page rest (same, omega (arith, is.count, c.1)) (λ k w. h.counted k)

  unmoved : (t : ℕ → Entry) (i : ℕ) → ((t i).mapped ≡ true → (t i).key ≢ key) → page_in (get new) (t i) ≡ page_in (get pool) (t i)
  unmoved t i apart = by_test (t i).mapped refl where
    by_test : (b : Bool) → (t i).mapped ≡ b → (if b then get new (t i).key else None) ≡ (if b then get pool (t i).key else None)
    by_test false w = refl
    by_test true w = rest (t i).key (apart w)

  -- no snapshot has it
  kept_apart : (j i : ℕ) → (slot_at kept j i).mapped ≡ true → (slot_at kept j i).key ≢ key
  kept_apart j i w e =
      let count : sharers (entry_at table) kept n key ≡ 1 =
      ap (λ (i : ℕ). sharers (entry_at table) kept i key) (sym numbered)
      ∙ sym (count_is (get pool) (entry_at table) kept h key p there).0 ∙ one in
      let mine : has (entry_at table) n key ≡ true = ap (λ (k : ℕ). has (entry_at table) n k) (sym keyed) ∙ has_own (entry_at table) n m in
      let none = alone (entry_at table) kept n key count mine j in
      let has_it : has (slot_at kept j) i key ≡ true = ap (λ (k : ℕ). has (slot_at kept j) i k) (sym e) ∙ has_own (slot_at kept j) i w in
      false≢true (sym none ∙ ap (λ (i : ℕ). has (slot_at kept j) i key) (sym (at_number (slot_at kept j) (h.slots j) i w e)) ∙ has_it)

  page-new : page_in (get new) (entry_at table n) ≡ Some q
  page-new = ap (λ (b : Bool). if b then get new (entry_at table n).key else None) m ∙ ap (get new) keyed ∙ page

  page-old : page_in (get pool) (entry_at table n) ≡ Some p
  page-old = ap (λ (b : Bool). if b then get pool (entry_at table n).key else None) m ∙ ap (get pool) keyed ∙ there

  pub written_contents : slab_len new ≡ slab_len pool → IsWritten n at bs (contents_in pool table kept) (contents_in new table kept)
  written_contents len = record {
    page = ap (option_map (value_in (entry_at table n))) page-new
        ∙ ap (λ (bytes : List ℕ). Some (page_of (entry_at table n) bytes)) is.bytes_are
        ∙ sym (ap (λ (o : Option Page). option_map (with_bytes at bs) (option_map (value_in (entry_at table n)) o)) page-old);
    own = ap (option_map (λ (p : Page). p.count)) page-new ∙ ap Some (is.count ∙ one);
    rest = record {
      pages = λ i apart. ap (option_map (value_in (entry_at table i)))
          (unmoved (entry_at table) i (λ w e. apart (at_number (entry_at table) h.current i w e)));
      counts = λ i apart. ap (option_map (λ (p : Page). p.count))
          (unmoved (entry_at table) i (λ w e. apart (at_number (entry_at table) h.current i w e)));
      kept = λ i j. kept_pages_stay (get pool) (get new) kept kept j refl
          (λ w. ap (option_map (value_in (slot_at kept j w))) (unmoved (slot_at kept j) w (kept_apart j w))) i;
    };
    live = let none : added (option_map (λ (p : Page). p.count) (page_in (get pool) (entry_at table n))) ≡ 0 =
        ap (λ (o : Option Page). added (option_map (λ (p : Page). p.count) o)) page-old ∙ ap (λ (c : ℕ). added (Some c)) one in
        omega (arith, len, none);
  }

pub on_err : {T E : Type 0} (r : Result T E) (P : Type 0) → P → OnErr r P
on_err (Ok x) P p = tt
on_err (Err e) P p = p

pub on_ok : {T E : Type 0} (r : Result T E) (P : Type 0) → P → OnOk r P
on_ok (Ok x) P p = p
on_ok (Err e) P p = tt

-- ---- the same for values

pub unchanged : (n : ℕ) (c : Contents) → c.counts n ≡ Some 1 → IsUnshared n c c
unchanged n c one = record {
  here = refl;
  own = one;
  rest = record { pages = λ q w. refl; counts = λ q w. refl; kept = refl };
  live = let none : added (c.counts n) ≡ 0 = ap added one in omega (arith, none);
}

pub placed_again : (n : ℕ) (page : PageValue) (old new : Contents) → Some page ≡ old.pages n → IsPlaced n page old new →
    IsUnshared n old new
placed_again n page old new e i = record { here = i.here ∙ e; own = i.own; rest = i.rest; live = i.live }

module _ {pool : Slab Page} {table : Table} {kept : List (Option Table)} {v : TablesValue} (s : StandFor pool table kept v) (n : ℕ) where
  pub live_mapped : IsSome ((contents_of v).pages n) → (entry_at table n).mapped ≡ true
  live_mapped live =
      by_test (entry_at table n).mapped (subst (λ (c : Contents). IsSome (c.pages n)) (seen s) live) where
        by_test : (b : Bool) → IsSome (option_map (value_in (entry_at table n)) (if b then get pool (entry_at table n).key else None)) →
            b ≡ true
        by_test true i = refl
        by_test false i = i

  pub own_mapped : (contents_of v).counts n ≡ Some 1 → (entry_at table n).mapped ≡ true
  own_mapped one = by_test (entry_at table n).mapped (sym (ap (λ (c : Contents). c.counts n) (seen s)) ∙ one) where
    by_test : (b : Bool) → option_map (λ (p : Page). p.count) (if b then get pool (entry_at table n).key else None) ≡ Some 1 → b ≡ true
    by_test true i = refl
    by_test false i = ap is_some i

  pub count_at : (p : Page) → (entry_at table n).mapped ≡ true → get pool (entry_at table n).key ≡ Some p →
      (contents_of v).counts n ≡ Some p.count
  count_at p m e =
      ap (λ (c : Contents). c.counts n) (seen s)
      ∙ ap (λ (b : Bool). option_map (λ (p : Page). p.count) (if b then get pool (entry_at table n).key else None)) m
      ∙ ap (option_map (λ (p : Page). p.count)) e

  -- where there is a page, it is counted
  pub live_count : IsSome ((contents_of v).pages n) → (e : Entry) → e ≡ entry_at table n → (p : Page) → get pool e.key ≡ Some p →
      (contents_of v).counts n ≡ Some p.count
  live_count live e is p there = count_at p (live_mapped live) (ap (λ (d : Entry). get pool d.key) (sym is) ∙ there)

  pub counts_seen : (contents_of v).counts n ≡ counts_in (get pool) (entry_at table) n
  counts_seen = ap (λ (c : Contents). c.counts n) (seen s)

-- bytes are written into the page of a key, which the current table alone has
module _ {pool new : Slab Page} (table : Table) {kept : List (Option Table)} (n : ℕ) {key at : ℕ} {bs : List ℕ}
    (h : AreShared (get pool) (entry_at table) kept)
    (is : key ≡ (entry_at table n).key) (own : counts_in (get pool) (entry_at table) n ≡ Some 1) (w : Rewrites key at bs pool new) where
  mapped : (entry_at table n).mapped ≡ true
  mapped = by_test (entry_at table n).mapped own where
    by_test : (b : Bool) → option_map (λ (p : Page). p.count) (if b then get pool (entry_at table n).key else None) ≡ Some 1 → b ≡ true
    by_test true i = refl
    by_test false i = ap is_some i

  rewritten : (p : Page) → get pool key ≡ Some p → (q : Page) × (get new key ≡ Some q) × IsRewritten (written p.bytes.value at bs) p q
  rewritten p there =
      by_page (get new key) refl
      (subst (λ (o : Option Page). IfSome o (λ p. IsSomeAnd (get new key) (IsRewritten (written p.bytes.value at bs) p))) there
      w.here) where
        by_page : (o : Option Page) → get new key ≡ o → IsSomeAnd o (IsRewritten (written p.bytes.value at bs) p) → (q : Page) ×
            (get new key ≡ Some q) × IsRewritten (written p.bytes.value at bs) p q
        by_page None e i = absurd i
        by_page (Some q) e i = (q, e, i)

  old-page : (p : Page) × (get pool (entry_at table n).key ≡ Some p) × (p.number ≡ n)
  old-page = found (get pool) (entry_at table) n h.current mapped

  there : get pool key ≡ Some old-page.0
  there = ap (get pool) is ∙ old-page.1

  alone-page : old-page.0.count ≡ 1
  alone-page = same_Some _ _ (sym (counted old-page.0 mapped old-page.1) ∙ own) where
    counted : (p : Page) → (entry_at table n).mapped ≡ true → get pool (entry_at table n).key ≡ Some p →
        counts_in (get pool) (entry_at table) n ≡ Some p.count
    counted p m e =
        ap (λ (b : Bool). option_map (λ (p : Page). p.count) (if b then get pool (entry_at table n).key else None)) m
        ∙ ap (option_map (λ (p : Page). p.count)) e

  pub write_shared : AreShared (get new) (entry_at table) kept
  write_shared = let r = rewritten old-page.0 there in
      written_shared pool new table kept n at key bs h mapped (sym is) old-page.0 r.0 there alone-page r.1 r.2 w.others

  pub write_contents : {v u : TablesValue} → value_of (contents_in pool table kept) ≡ v → value_of (contents_in new table kept) ≡ u →
      IsWritten n at bs (contents_of v) (contents_of u)
  write_contents view after = let r = rewritten old-page.0 there in
      carried (stand pool table kept _ h view) (stand new table kept _ write_shared after) (IsWritten n at bs)
      (written_contents pool new table kept n at key bs h mapped (sym is) old-page.0 r.0 there alone-page r.1 r.2 w.others w.len)

-- bytes are put into a page that may be written where it stands
module _ {pool new : Slab Page} (table : Table) {n key at : ℕ} {bs : List ℕ} {kept : List (Option Table)}
    (h : AreShared (get pool) (entry_at table) kept) (o : IsOwnKey (get pool) (entry_at table) n key)
    (w : Rewrites key at bs pool new) where
  pub put_shared : AreShared (get new) (entry_at table) kept
  put_shared = write_shared table n h o.is o.own w

  pub put_done : {v : TablesValue} → value_of (contents_in pool table kept) ≡ v → {T : Type 0} (x : T) →
      Puts (Ok x) n at bs v (value_of (contents_in new table kept))
  put_done {v = v} view x = record {
    allowed = allowed;
    written = write_contents table n h o.is o.own w view refl;
    refused = tt;
    err = tt;
  } where
    allowed : allows_write ((contents_of v).pages n) ≡ true
    allowed =
        let s = stand pool table kept v h view in
        let mapped = allows_mapped s (λ p. p.write) refl n (entry_at table n) refl o.allowed in
        let f = found (get pool) (entry_at table) n h.current mapped in
        ap allows_write (pages_seen s n ∙ page_mapped (get pool) (entry_at table) n f.0 mapped f.1) ∙ o.allowed

-- a page is unshared, and then written
pub written_after : (n at : ℕ) (bs : List ℕ) (old mid new : Contents) → IsUnshared n old mid → IsWritten n at bs mid new →
    IsWritten n at bs old new
written_after n at bs old mid new u w = record {
  page = w.page ∙ ap (option_map (with_bytes at bs)) u.here;
  own = w.own;
  rest = record {
    pages = λ q a. w.rest.pages q a ∙ u.rest.pages q a;
    counts = λ q a. w.rest.counts q a ∙ u.rest.counts q a;
    kept = w.rest.kept ∙ u.rest.kept;
  };
  live = let none : added (mid.counts n) ≡ 0 = ap added u.own in omega (arith, w.live, u.live, none);
}

-- what isn't refused may be written
pub unrefused : (o : Option PageValue) → put_refusal o ≡ None → allows_write o ≡ true
unrefused None e = absurd (none-some _ (sym e))
unrefused (Some p) e = by_test p.permissions.write e where
  by_test : (b : Bool) → (if b then None else Some errors.NotAllowed) ≡ None → b ≡ true
  by_test true i = refl
  by_test false i = absurd (none-some _ (sym i))

pub is_refusal : (o : Option PageValue) (fault : PutFault) → put_refusal o ≡ Some fault → IsPutRefusal o fault
is_refusal None fault e = subst (IsPutRefusal None) (same_Some _ _ e) refl
is_refusal (Some p) fault e = by_test p.permissions.write refl e where
  by_test : (b : Bool) → p.permissions.write ≡ b → (if b then None else Some errors.NotAllowed) ≡ Some fault → IsPutRefusal (Some p) fault
  by_test true i e = absurd (none-some _ e)
  by_test false i e = subst (IsPutRefusal (Some p)) (same_Some _ _ e) (refl, i)

pub writable_there : (o : Option PageValue) → allows_write o ≡ true → IsSome o
writable_there None e = e
writable_there (Some p) e = refl

-- ---- permissions that are set

module _ (pool : Slab Page) {table later : Table} {kept : List (Option Table)} {n key : ℕ} {permissions : Permissions}
    (h : AreShared (get pool) (entry_at table) kept) (m : (entry_at table n).mapped ≡ true) (keyed : (entry_at table n).key ≡ key)
    (put : SetsEntry n (record { key = key; mapped = true; permissions = permissions }) table later) where
  same-mapped : (q : ℕ) → (entry_at later q).mapped ≡ (entry_at table q).mapped
  same-mapped q = elim (cases_eq q n) [
    | inl w ↦ ap (λ (i : ℕ). (entry_at later i).mapped) w ∙ ap (λ (d : Entry). d.mapped) put.here
        ∙ sym (ap (λ (i : ℕ). (entry_at table i).mapped) w ∙ m)
    | inr w ↦ ap (λ (d : Entry). d.mapped) (put.others q w)
  ]

  same-key : (q : ℕ) → (entry_at later q).key ≡ (entry_at table q).key
  same-key q = elim (cases_eq q n) [
    | inl w ↦ ap (λ (i : ℕ). (entry_at later i).key) w ∙ ap (λ (d : Entry). d.key) put.here
        ∙ sym (ap (λ (i : ℕ). (entry_at table i).key) w ∙ keyed)
    | inr w ↦ ap (λ (d : Entry). d.key) (put.others q w)
  ]

  same-page : (q : ℕ) → page_in (get pool) (entry_at later q) ≡ page_in (get pool) (entry_at table q)
  same-page q = λ i. if same-mapped q i then get pool (same-key q i) else None

  pub protected_shared : AreShared (get pool) (entry_at later) kept
  protected_shared = record { current = current; slots = h.slots; counted = counted; few = h.few; filled = h.filled } where
    current : IsTableOf (get pool) (entry_at later)
    current = record {
      low = λ q w. h.current.low q (sym (same-mapped q) ∙ w);
      own = λ q w. subst (λ (k : ℕ). IsSomeAnd (get pool k) (λ p. p.number ≡ q)) (sym (same-key q))
          (h.current.own q (sym (same-mapped q) ∙ w));
      none = λ q w. elim (cases_eq q n) [
        | inl e ↦ absurd (false≢true (sym (sym (same-mapped q) ∙ w) ∙ ap (λ (i : ℕ). (entry_at table i).mapped) e ∙ m))
        | inr e ↦ ap (λ (d : Entry). d.permissions) (put.others q e) ∙ h.current.none q (sym (same-mapped q) ∙ w)
      ];
    }

    same-shares : (q k : ℕ) → sharers (entry_at later) kept q k ≡ sharers (entry_at table) kept q k
    same-shares q k = λ i. one_if (same-mapped q i && (same-key q i == k)) + count_by (λ s. has (slot_entry s) q k) kept

    by_page : (k : ℕ) (o : Option Page) → IfSome o (λ p. (p.count ≡ sharers (entry_at table) kept p.number k) × (1 ≤ p.count)) →
        IfSome o (λ p. (p.count ≡ sharers (entry_at later) kept p.number k) × (1 ≤ p.count))
    by_page k None i = tt
    by_page k (Some p) i = (i.0 ∙ sym (same-shares p.number k), i.1)

    counted : (k : ℕ) → IfSome (get pool k) (λ p. (p.count ≡ sharers (entry_at later) kept p.number k) × (1 ≤ p.count))
    counted k = by_page k (get pool k) (h.counted k)

  pub protected_contents : IsProtected n permissions (contents_in pool table kept) (contents_in pool later kept)
  protected_contents = record {
    page =
        ap (λ (d : Entry). option_map (value_in d) (page_in (get pool) (entry_at later n))) put.here
        ∙ ap (option_map (value_in (record { key = key; mapped = true; permissions = permissions }))) (same-page n)
        ∙ by_page (page_in (get pool) (entry_at table n));
    count = ap (option_map (λ (p : Page). p.count)) (same-page n);
    rest = record {
      pages = λ q w. ap (λ (d : Entry). option_map (value_in d) (page_in (get pool) d)) (put.others q w);
      counts = λ q w. ap (option_map (λ (p : Page). p.count)) (same-page q);
      kept = refl;
    };
    live = refl;
  } where
    by_page : (o : Option Page) →
        option_map (value_in (record { key = key; mapped = true; permissions = permissions })) o
        ≡ option_map (with_permissions permissions) (option_map (value_in (entry_at table n)) o)
    by_page None = refl
    by_page (Some p) = refl

-- where there is no page, nothing is protected
pub none_protected : (n : ℕ) (permissions : Permissions) (c : Contents) → c.pages n ≡ None → IsProtected n permissions c c
none_protected n permissions c none = record {
  page = none ∙ sym (ap (option_map (with_permissions permissions)) none);
  count = refl;
  rest = record { pages = λ q w. refl; counts = λ q w. refl; kept = refl };
  live = refl;
}

pub one_count : (k : ℕ) → (k == 1) ≡ true → k ≡ 1
one_count k e = grind (arith, nat_tests)

pub not_one : (k : ℕ) → (k == 1) ≡ false → k ≡ 1 → ⊥
not_one k e f = grind (arith, nat_tests)

-- ---- a page that is filled anew

overwritten : (bs bytes : List ℕ) → length bs ≡ length bytes → written bytes 0 bs ≡ bs
overwritten bs bytes e =
    let none : drop (0 + length bs) bytes ≡ [] = drop_of_length-le bytes (omega (arith, e)) in
    written_is bs bytes 0 (omega (arith, e)) ∙ ap (λ (rest : List ℕ). bs ++ rest) none ∙ append-nil bs

-- all bytes of a page are written, and then its permissions set
pub written_anew : (n : ℕ) (permissions : Permissions) (bs : List ℕ) (old mid new : Contents) → IsSome (old.pages n) →
    IfSome (old.pages n) (λ p. length bs ≡ length p.bytes) → IsWritten n 0 bs old mid → IsProtected n permissions mid new →
    IsPlaced n (record { permissions = permissions; bytes = bs }) old new
written_anew n permissions bs old mid new there full w p = record {
  here = p.page ∙ ap (option_map (with_permissions permissions)) w.page ∙ by_page (old.pages n) there full;
  own = p.count ∙ w.own;
  rest = record {
    pages = λ q a. p.rest.pages q a ∙ w.rest.pages q a;
    counts = λ q a. p.rest.counts q a ∙ w.rest.counts q a;
    kept = p.rest.kept ∙ w.rest.kept;
  };
  live = p.live ∙ w.live;
} where
  by_page : (o : Option PageValue) → IsSome o → IfSome o (λ p. length bs ≡ length p.bytes) →
      option_map (with_permissions permissions) (option_map (with_bytes 0 bs) o) ≡ Some (record { permissions = permissions; bytes = bs })
  by_page None e i = absurd (false≢true e)
  by_page (Some p) e i = ap (λ (bytes : List ℕ). Some (record { permissions = permissions; bytes = bytes })) (overwritten bs p.bytes i)
