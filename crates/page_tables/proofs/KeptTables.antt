-- A snapshot that is made, and one that goes.
use Rattle.std.proofs.Common.{◌≡◌, ℕ, ◌+◌, ◌<◌, ◌≤◌, ◌^◌, ◌-◌, Bool, true, false, List, length, get_or, Option, Some, None, IfSome, refl, ap, ◌∙◌, sym, subst, arith, inl, inr, if◌then◌else◌}
use Rattle.std.proofs.lemmas.Bool.{false≢true, cases_eq}
use Rattle.std.proofs.lemmas.List.Sums.{count_by-le-length}
use Rattle.std.specs.Option.{option_map}
use Rattle.slab.specs.Slab.{Slab, get, slab_len}
use Rattle.page_tables.specs.declared.table.Entry.{Entry}
use Rattle.page_tables.specs.declared.table.Table.{Table}
use Rattle.page_tables.specs.declared.pool.Page.{Page}
use Rattle.page_tables.specs.Table.{entry_at, AreAlike}
use Rattle.page_tables.specs.Contents.{Contents}
use Rattle.page_tables.specs.Changes.{IsKept, IsReleased}
use Rattle.page_tables.specs.Sharing.{has, slot_entry, slot_at, sharers, IsTableOf, AreShared, pages_in, counts_in, contents_in, raised, raised_by, lowered_by, IsSlotSet}
use Rattle.page_tables.proofs.Sharing.{one_if, Settles, settled, pages_stay, shared_after, count_is, raised_settles, lowered_settles, current_shares, slot_shares, kept_pages_stay, has_own, found, below_end}

-- a count is of one table more than there are snapshots, at most
pub small : (pool : ℕ → Option Page) (t : ℕ → Entry) (kept : List (Option Table)) → AreShared pool t kept → length kept < 2 ^ 32 - 3 →
    (k : ℕ) → IfSome (pool k) (λ p. p.count < 2 ^ 32 - 1)
small pool t kept h few k = by_page (pool k) refl where
  at_most_one : (b : Bool) → one_if b ≤ 1
  at_most_one true = omega arith
  at_most_one false = omega arith

  by_page : (o : Option Page) → pool k ≡ o → IfSome o (λ p. p.count < 2 ^ 32 - 1)
  by_page None e = tt
  by_page (Some p) e =
      omega (
        arith,
        (count_is pool t kept h k p e).0,
        at_most_one (has t p.number k),
        count_by-le-length (λ s. has (slot_entry s) p.number k) kept,
      )

pub positive : (pool : ℕ → Option Page) (t : ℕ → Entry) (kept : List (Option Table)) → AreShared pool t kept → (k : ℕ) →
    IfSome (pool k) (λ p. 1 ≤ p.count)
positive pool t kept h k = by_page (pool k) refl where
  by_page : (o : Option Page) → pool k ≡ o → IfSome o (λ p. 1 ≤ p.count)
  by_page None e = tt
  by_page (Some p) e = (count_is pool t kept h k p e).1

module _ (pool new : Slab Page) (table copy : Table) (kept later : List (Option Table)) (i : ℕ)
    (h : AreShared (get pool) (entry_at table) kept)
    (free : get_or kept i None ≡ None) (put : IsSlotSet i (Some copy) kept later) (alike : AreAlike table copy)
    (is : (k : ℕ) → get new k ≡ raised_by (entry_at table) 0x80000 k (get pool k)) where
  same_table : entry_at table ≡ entry_at copy
  same_table = λ j n. sym (alike.at n) j

  more : (n k : ℕ) → sharers (entry_at table) later n k ≡ sharers (entry_at table) kept n k + one_if (has (entry_at table) n k)
  more n k =
      let none : one_if (has (slot_at kept i) n k) ≡ 0 = ap (λ (s : Option Table). one_if (has (slot_entry s) n k)) free in
      let same : one_if (has (entry_at copy) n k) ≡ one_if (has (entry_at table) n k) =
      ap (λ (t : ℕ → Entry). one_if (has t n k)) (sym same_table) in
      omega (arith, put.shares n k, none, same)

  settles : Settles (get pool) (sharers (entry_at table) later) (get new)
  settles = raised_settles (get pool) (entry_at table) (entry_at table) (sharers (entry_at table) kept) (sharers (entry_at table) later)
      h.current (count_is (get pool) (entry_at table) kept h) more (get new) is

  slots : (j : ℕ) → IsTableOf (get pool) (slot_at later j)
  slots j = elim (cases_eq j i) [
    | inl w ↦ subst (λ (s : Option Table). IsTableOf (get pool) (slot_entry s)) (sym (ap (λ (m : ℕ). get_or later m None) w ∙ put.here))
        (subst (λ (t : ℕ → Entry). IsTableOf (get pool) t) same_table h.current)
    | inr w ↦ subst (λ (s : Option Table). IsTableOf (get pool) (slot_entry s)) (sym (put.others j w)) (h.slots j)
  ]

  pub kept_shared : length later < 2 ^ 32 - 1 → AreShared (get new) (entry_at table) later
  kept_shared few =
      shared_after (get pool) (get new) (entry_at table) later settles (λ k e. is k ∙ ap (raised_by (entry_at table) 0x80000 k) e) h.current
      slots few h.filled

  stay : (n : ℕ) → pages_in (get new) (entry_at table) n ≡ pages_in (get pool) (entry_at table) n
  stay = pages_stay (get pool) (get new) (sharers (entry_at table) later) settles (entry_at table) h.current
      (current_shares (entry_at table) later)

  counts : (n : ℕ) → counts_in (get new) (entry_at table) n ≡ option_map (λ c. c + 1) (counts_in (get pool) (entry_at table) n)
  counts n = by_test (entry_at table n).mapped refl where
    k : ℕ
    k = (entry_at table n).key

    by_test : (b : Bool) → (entry_at table n).mapped ≡ b →
        option_map (λ (p : Page). p.count) (if b then get new (entry_at table n).key else None)
        ≡ option_map (λ c. c + 1) (option_map (λ (p : Page). p.count) (if b then get pool (entry_at table n).key else None))
    by_test false e = refl
    by_test true e =
        let f = found (get pool) (entry_at table) n h.current e in
        let test = below_end (get pool) (entry_at table) h.current (entry_at table n).key f.0.number
        ∙ ap (λ (m : ℕ). has (entry_at table) m (entry_at table n).key) f.2 ∙ has_own (entry_at table) n e in
        ap (option_map (λ (p : Page). p.count))
        (is (entry_at table n).key ∙ ap (raised_by (entry_at table) 0x80000 (entry_at table n).key) f.1
        ∙ ap (λ (b : Bool). if b then raised (Some f.0) else Some f.0) test)
        ∙ sym (ap (λ (o : Option Page). option_map (λ c. c + 1) (option_map (λ (p : Page). p.count) o)) f.1)

  pub kept_contents : slab_len new ≡ slab_len pool → IsKept i (contents_in pool table kept) (contents_in new table later)
  kept_contents len = record {
    free = ap (option_map (λ t. pages_in (get pool) (entry_at t))) free;
    here = ap (option_map (λ t. pages_in (get new) (entry_at t))) put.here
        ∙ ap (λ (t : ℕ → Entry). Some (pages_in (get new) t)) (sym same_table) ∙ (λ j. Some (λ n. stay n j));
    others = λ j apart. kept_pages_stay (get pool) (get new) kept later j (put.others j apart)
        (λ n. ap (λ (s : Option Table). pages_in (get new) (slot_entry s) n) (sym (put.others j apart))
        ∙ pages_stay (get pool) (get new) (sharers (entry_at table) later) settles (slot_at later j) (slots j)
        (slot_shares (entry_at table) later j) n
        ∙ ap (λ (s : Option Table). pages_in (get pool) (slot_entry s) n) (put.others j apart));
    pages = λ j n. stay n j;
    counts = counts;
    live = len;
  }

module _ (pool new : Slab Page) (table gone : Table) (kept later : List (Option Table)) (i : ℕ)
    (h : AreShared (get pool) (entry_at table) kept)
    (was : get_or kept i None ≡ Some gone) (put : IsSlotSet i None kept later)
    (is : (k : ℕ) → get new k ≡ lowered_by (entry_at gone) 0x80000 k (get pool k)) where
  pub gone_table : IsTableOf (get pool) (entry_at gone)
  gone_table = subst (λ (s : Option Table). IsTableOf (get pool) (slot_entry s)) was (h.slots i)

  less : (n k : ℕ) → sharers (entry_at table) later n k + one_if (has (entry_at gone) n k) ≡ sharers (entry_at table) kept n k
  less n k =
      let one : one_if (has (slot_at kept i) n k) ≡ one_if (has (entry_at gone) n k) =
      ap (λ (s : Option Table). one_if (has (slot_entry s) n k)) was in
      omega (arith, put.shares n k, one)

  settles-gone : Settles (get pool) (sharers (entry_at table) later) (get new)
  settles-gone =
      lowered_settles (get pool) (entry_at gone) (sharers (entry_at table) kept) (sharers (entry_at table) later) gone_table
      (count_is (get pool) (entry_at table) kept h) less (get new) is

  slots-gone : (j : ℕ) → IsTableOf (get pool) (slot_at later j)
  slots-gone j = elim (cases_eq j i) [
    | inl w ↦ subst (λ (s : Option Table). IsTableOf (get pool) (slot_entry s)) (sym (ap (λ (m : ℕ). get_or later m None) w ∙ put.here))
        nothing
    | inr w ↦ subst (λ (s : Option Table). IsTableOf (get pool) (slot_entry s)) (sym (put.others j w)) (h.slots j)
  ] where
    nothing : IsTableOf (get pool) (slot_entry None)
    nothing = record { low = λ n e. absurd (false≢true e); own = λ n e. absurd (false≢true e); none = λ n e. refl }

  pub released_shared : length later ≡ length kept → AreShared (get new) (entry_at table) later
  released_shared len =
      shared_after (get pool) (get new) (entry_at table) later settles-gone (λ k e. is k ∙ ap (lowered_by (entry_at gone) 0x80000 k) e)
      h.current slots-gone (omega (arith, h.few)) h.filled

  own-gone : (n : ℕ) → counts_in (get pool) (entry_at table) n ≡ Some 1 → counts_in (get new) (entry_at table) n ≡ Some 1
  own-gone n one = by_test (entry_at table n).mapped refl one where
    by_test : (b : Bool) → (entry_at table n).mapped ≡ b →
        option_map (λ (p : Page). p.count) (if b then get pool (entry_at table n).key else None) ≡ Some 1 →
        option_map (λ (p : Page). p.count) (if b then get new (entry_at table n).key else None) ≡ Some 1
    by_test false e c = c
    by_test true e c =
        let f = settled (get pool) (get new) (sharers (entry_at table) later) settles-gone (entry_at table) h.current
        (current_shares (entry_at table) later) n e in
        let count : f.0.count ≡ 1 = cc (c, f.1) in
        let shares = current_shares (entry_at table) later n (entry_at table n).key (has_own (entry_at table) n e) in
        let before : f.0.count ≡ sharers (entry_at table) kept n (entry_at table n).key =
        (count_is (get pool) (entry_at table) kept h (entry_at table n).key f.0 f.1).0
        ∙ ap (λ (m : ℕ). sharers (entry_at table) kept m (entry_at table n).key) f.2 in
        let after : sharers (entry_at table) later n (entry_at table n).key ≡ 1 =
        omega (arith, less n (entry_at table n).key, shares, before, count) in
        ap (option_map (λ (p : Page). p.count)) f.3 ∙ ap Some after

  pub released_contents : slab_len new ≤ slab_len pool → IsReleased i (contents_in pool table kept) (contents_in new table later)
  released_contents len = record {
    gone = ap (option_map (λ t. pages_in (get new) (entry_at t))) put.here;
    others = λ j apart. kept_pages_stay (get pool) (get new) kept later j (put.others j apart)
        (λ n. ap (λ (s : Option Table). pages_in (get new) (slot_entry s) n) (sym (put.others j apart))
        ∙ pages_stay (get pool) (get new) (sharers (entry_at table) later) settles-gone (slot_at later j) (slots-gone j)
        (slot_shares (entry_at table) later j) n
        ∙ ap (λ (s : Option Table). pages_in (get pool) (slot_entry s) n) (put.others j apart));
    pages = λ j n. pages_stay (get pool) (get new) (sharers (entry_at table) later) settles-gone (entry_at table) h.current
        (current_shares (entry_at table) later) n j;
    own = own-gone;
    live = len;
  }
