-- What is so of all page tables.
use Rattle.std.proofs.Common.{◌≡◌, ◌≤◌, ℕ, false, true, Option, Some, None, IfSome, IsSome, is_some, List, get_or, refl, ap, ◌∙◌, sym, subst, arith}
use Rattle.std.specs.Prelude.{if◌then◌else◌, Bool}
use Rattle.std.proofs.lemmas.Bool.{false≢true}
use Rattle.std.specs.Option.{option_map}
use Rattle.slab.specs.Slab.{Slab, get}
use Rattle.page_tables.specs.declared.table.Entry.{Entry}
use Rattle.page_tables.specs.declared.table.Table.{Table}
use Rattle.page_tables.specs.declared.pool.Page.{Page}
use Rattle.page_tables.specs.Table.{entry_at}
use Rattle.page_tables.specs.Contents.{Contents, FillPage, ArePages, TablesValue, contents_of, page_total, value_of}
use Rattle.page_tables.specs.Sharing.{has, slot_entry, sharers, AreShared, page_in, value_in, pages_in, contents_in}
use Rattle.page_tables.proofs.Sharing.{one_if, count_is, has_own, found}
use Rattle.page_tables.proofs.Values.{StandFor, seen}
use Rattle.page_tables.proofs.PlacedPages.{no_shares, live_mapped, count_at}
use Rattle.page_tables.proofs.Counting.{least_live, alone_live}

maps_some : {X Y Z : Type 0} (f : X → Y) (g : X → Z) (o : Option X) → IsSome (option_map f o) → IsSome (option_map g o)
maps_some f g None e = e
maps_some f g (Some x) e = refl

-- where there is a count there is a page
pub counted_there : (pool : Slab Page) (table : Table) (kept : List (Option Table)) (n : ℕ) →
    IsSome ((contents_in pool table kept).counts n) → IsSome ((contents_in pool table kept).pages n)
counted_there pool table kept n = maps_some (λ (p : Page). p.count) (value_in (entry_at table n)) (page_in (get pool) (entry_at table n))

-- the pages of a table fill theirs
pub filled_pages : (pool : ℕ → Option Page) (t : ℕ → Entry) → ((k : ℕ) → IfSome (pool k) (λ p. FillPage p.bytes.value)) →
    ArePages (pages_in pool t)
filled_pages pool t full n = by_page (page_in pool (t n)) (by_test (t n).mapped) where
  by_test : (b : Bool) → IfSome (if b then pool (t n).key else None) (λ p. FillPage p.bytes.value)
  by_test true = full (t n).key
  by_test false = tt

  by_page : (o : Option Page) → IfSome o (λ p. FillPage p.bytes.value) → IfSome (option_map (value_in (t n)) o) (λ p. FillPage p.bytes)
  by_page None i = tt
  by_page (Some p) i = i

module _ {pool : Slab Page} {table : Table} {kept : List (Option Table)} {v : TablesValue} (s : StandFor pool table kept v) where
  no_slot : ((i : ℕ) → (contents_of v).kept i ≡ None) → (i : ℕ) → get_or kept i None ≡ None
  no_slot none i = by_slot (get_or kept i None) refl where
    by_slot : (o : Option Table) → get_or kept i None ≡ o → get_or kept i None ≡ None
    by_slot None e = e
    by_slot (Some t) e =
        let there : None ≡ Some (pages_in (get pool) (entry_at t)) =
        sym (none i) ∙ ap (λ (c : Contents). c.kept i) (seen s) ∙ ap (option_map (λ (t : Table). pages_in (get pool) (entry_at t))) e in
        absurd (false≢true (ap is_some there))

  pub no_sharers : ((i : ℕ) → (contents_of v).kept i ≡ None) → (n : ℕ) → IsSome ((contents_of v).pages n) →
      (contents_of v).counts n ≡ Some 1
  no_sharers none n there =
      let m = live_mapped s n there in
      let f = found (get pool) (entry_at table) n s.shared.current m in
      let k : ℕ = (entry_at table n).key in
      let none_else = no_shares kept n k (λ i. ap (λ (s : Option Table). has (slot_entry s) n k) (no_slot none i)) in
      let mine : one_if (has (entry_at table) n k) ≡ 1 = ap one_if (has_own (entry_at table) n m) in
      let count : f.0.count ≡ sharers (entry_at table) kept n k =
      (count_is (get pool) (entry_at table) kept s.shared k f.0 f.1).0 ∙ ap (λ (q : ℕ). sharers (entry_at table) kept q k) f.2 in
      let one : f.0.count ≡ 1 = omega (arith, count, mine, none_else) in
      count_at s n f.0 m f.1 ∙ ap Some one

  pub is_counted : (n : ℕ) → (IsSome ((contents_of v).pages n) → IsSome ((contents_of v).counts n)) ×
      (IsSome ((contents_of v).counts n) → IsSome ((contents_of v).pages n))
  is_counted n =
      let page : Option Page = page_in (get pool) (entry_at table n) in
      subst (λ (c : Contents). (IsSome (c.pages n) → IsSome (c.counts n)) × (IsSome (c.counts n) → IsSome (c.pages n))) (sym (seen s)) (
        maps_some (value_in (entry_at table n)) (λ (p : Page). p.count) page,
        maps_some (λ (p : Page). p.count) (value_in (entry_at table n)) page,
      )

  pub has_least : page_total (contents_of v).pages ≤ (contents_of v).live
  has_least = subst (λ (c : Contents). page_total c.pages ≤ c.live) (sym (seen s)) (least_live pool table kept s.shared)

  pub has_no_others : ((i : ℕ) → (contents_of v).kept i ≡ None) → (contents_of v).live ≡ page_total (contents_of v).pages
  has_no_others none =
      subst (λ (c : Contents). c.live ≡ page_total c.pages) (sym (seen s)) (alone_live pool table kept s.shared (no_slot none))

  pub has_pages : ArePages (contents_of v).pages
  has_pages = subst (λ (c : Contents). ArePages c.pages) (sym (seen s)) (filled_pages (get pool) (entry_at table) s.shared.filled)

  pub has_kept_pages : (i : ℕ) → IfSome ((contents_of v).kept i) ArePages
  has_kept_pages i = subst (λ (c : Contents). IfSome (c.kept i) ArePages) (sym (seen s)) (by_slot (get_or kept i None)) where
    by_slot : (o : Option Table) → IfSome (option_map (λ (t : Table). pages_in (get pool) (entry_at t)) o) ArePages
    by_slot None = tt
    by_slot (Some t) = filled_pages (get pool) (entry_at t) s.shared.filled
