-- What page tables contain, and the value that stands for it.
use Rattle.std.proofs.Common.{◌≡◌, ℕ, zero, suc, ◌<◌, ◌≤◌, ◌^◌, Bool, true, false, not, cond, List, get_or, Option, Some, None, IfSome, IsSome, IsSomeAnd, is_some, refl, ap, ◌∙◌, sym, subst, arith, inl, inr, if◌then◌else◌}
use Rattle.std.proofs.lemmas.Bool.{false≢true, cases_lt}
use Rattle.std.proofs.lemmas.Bool.Decides.{eqb_tells}
use Rattle.std.proofs.lemmas.List.{get_or_past}
use Rattle.std.proofs.Math.Dec.{eqb}
use Rattle.std.specs.Option.{option_map}
use Rattle.slab.specs.Slab.{Slab, get as slab_get}
use Rattle.page_permissions.proofs.Keys.{is_at_nat}
use Rattle.page_permissions.specs.declared.page.Permissions.{Permissions}
use Rattle.page_tables.specs.declared.table.TheConstants.{NO_PAGE}
use Rattle.page_tables.specs.declared.table.Entry.{Entry}
use Rattle.page_tables.specs.declared.table.Table.{Table}
use Rattle.page_tables.specs.declared.pool.Page.{Page}
use Rattle.page_tables.specs.Table.{entry_at}
use Rattle.page_tables.specs.Contents.{PageValue, Contents, TablesValue, contents_of, value_of, at_number, with_entry, gathered}
use Rattle.page_tables.specs.Sharing.{slot_at, slot_entry, IsTableOf, AreShared, page_in, value_in, pages_in, kept_in, contents_in}
use Rattle.page_tables.specs.Changes.{IsNext, allows, bytes_if}
use Rattle.page_tables.proofs.Sharing.{found}

-- ---- functions as data

with_apart : {X : Type 0} (m : List (ℕ × X)) (n q : ℕ) (o : Option X) → eqb n q ≡ false → at_number (with_entry m n o) q ≡ at_number m q
with_apart m n q None e = refl
with_apart m n q (Some x) e = ap (λ b. cond b (Some x) (at_number m q)) (is_at_nat q n ∙ e)

with_here : {X : Type 0} (m : List (ℕ × X)) (n q : ℕ) (o : Option X) → eqb n q ≡ true → at_number m q ≡ None →
    at_number (with_entry m n o) q ≡ o
with_here m n q None e none = none
with_here m n q (Some x) e none = ap (λ b. cond b (Some x) (at_number m q)) (is_at_nat q n ∙ e)

pub gathered_above : {X : Type 0} (n : ℕ) (f : ℕ → Option X) (q : ℕ) → n ≤ q → at_number (gathered n f) q ≡ None
unfolding gathered
gathered_above zero f q h = refl
gathered_above (suc n) f q h = elim (eqb_tells n q) [
  | inl w ↦ absurd (omega (arith, w.1))
  | inr w ↦ with_apart (gathered n f) n q (f n) w.0 ∙ gathered_above n f q (omega arith)
]

pub gathered_below : {X : Type 0} (n : ℕ) (f : ℕ → Option X) (q : ℕ) → q < n → at_number (gathered n f) q ≡ f q
unfolding gathered
gathered_below zero f q h = absurd (omega arith)
gathered_below (suc n) f q h = elim (eqb_tells n q) [
  | inl w ↦ with_here (gathered n f) n q (f n) w.0 (gathered_above n f q (omega (arith, w.1))) ∙ ap f w.1
  | inr w ↦ with_apart (gathered n f) n q (f n) w.0 ∙ gathered_below n f q (omega (arith, w.1))
]

-- a function that has nothing from a number on
abbrev pub IsBounded : {X : Type 0} → ℕ → (ℕ → Option X) → Type 0
IsBounded n f = (q : ℕ) → n ≤ q → f q ≡ None

pub gathered_is : {X : Type 0} (n : ℕ) (f : ℕ → Option X) → IsBounded n f → at_number (gathered n f) ≡ f
gathered_is n f h = λ i q. at q i where
  at : (q : ℕ) → at_number (gathered n f) q ≡ f q
  at q = elim (cases_lt q n) [ inl w ↦ gathered_below n f q w | inr w ↦ gathered_above n f q w ∙ sym (h q w) ]

-- the value of bounded contents stands for them
pub contents_is : (c : Contents) → IsBounded 0x80000 c.pages → IsBounded 0x80000 c.counts → IsBounded (2 ^ 32) c.kept →
    ((i : ℕ) → IfSome (c.kept i) (IsBounded 0x80000)) → contents_of (value_of c) ≡ c
contents_is c pages counts kept each =
    λ i. record {
      pages = gathered_is 0x80000 c.pages pages i;
      counts = gathered_is 0x80000 c.counts counts i;
      kept = λ j. at j i;
      live = c.live;
    } where
      maps : (o : Option (ℕ → Option PageValue)) → IfSome o (IsBounded 0x80000) → option_map at_number (option_map (gathered 0x80000) o) ≡ o
      maps None h = refl
      maps (Some f) h = ap Some (gathered_is 0x80000 f h)

      none : IsBounded (2 ^ 32) (λ j. option_map (gathered 0x80000) (c.kept j))
      none = λ j h. ap (option_map (gathered 0x80000)) (kept j h)

      at : (j : ℕ) → option_map at_number (at_number (gathered (2 ^ 32) (λ j. option_map (gathered 0x80000) (c.kept j))) j) ≡ c.kept j
      at j = ap (option_map at_number) (λ i. gathered_is (2 ^ 32) (λ j. option_map (gathered 0x80000) (c.kept j)) none i j)
          ∙ maps (c.kept j) (each j)

-- ---- the contents of tables

high : (pool : ℕ → Option Page) (t : ℕ → Entry) → IsTableOf pool t → (n : ℕ) → 0x80000 ≤ n → page_in pool (t n) ≡ None
high pool t h n l = by_test (t n).mapped refl where
  by_test : (b : Bool) → (t n).mapped ≡ b → (if b then pool (t n).key else None) ≡ None
  by_test false e = refl
  by_test true e = absurd (omega (arith, h.low n e))

kept_high : (pool : ℕ → Option Page) (kept : List (Option Table)) → ((i : ℕ) → IsTableOf pool (slot_at kept i)) → (i : ℕ) →
    IfSome (kept_in pool kept i) (IsBounded 0x80000)
kept_high pool kept h i = by_slot (get_or kept i None) refl where
  by_slot : (o : Option Table) → get_or kept i None ≡ o → IfSome (option_map (λ t. pages_in pool (entry_at t)) o) (IsBounded 0x80000)
  by_slot None e = tt
  by_slot (Some t) e =
      λ n l. ap (option_map (value_in (entry_at t n)))
      (high pool (entry_at t) (subst (λ (s : Option Table). IsTableOf pool (slot_entry s)) e (h i)) n l)

-- ---- entries that allow something

abbrev pub page_of : Entry → List ℕ → PageValue
page_of e bytes = record { permissions = e.permissions; bytes = bytes }

-- an entry that allows something is of a page
pub allowed_mapped : (pool : ℕ → Option Page) (t : ℕ → Entry) (n : ℕ) (allows : Permissions → Bool) → IsTableOf pool t →
    allows NO_PAGE.permissions ≡ false → allows (t n).permissions ≡ true → (t n).mapped ≡ true
allowed_mapped pool t n allows h nothing e = by_test (t n).mapped refl where
  by_test : (b : Bool) → (t n).mapped ≡ b → b ≡ true
  by_test true m = refl
  by_test false m = absurd (false≢true (sym nothing ∙ sym (ap allows (h.none n m)) ∙ e))

-- the page of an entry is in the pool
pub present : (pool : ℕ → Option Page) (t : ℕ → Entry) (n : ℕ) → IsTableOf pool t → (t n).mapped ≡ true → IsSome (pool (t n).key)
present pool t n h m = let f = found pool t n h m in ap is_some f.1

pub page_mapped : (pool : ℕ → Option Page) (t : ℕ → Entry) (n : ℕ) (p : Page) → (t n).mapped ≡ true → pool (t n).key ≡ Some p →
    pages_in pool t n ≡ Some (value_in (t n) p)
page_mapped pool t n p m e =
    ap (λ (b : Bool). option_map (value_in (t n)) (if b then pool (t n).key else None)) m ∙ ap (option_map (value_in (t n))) e

pub page_unmapped : (pool : ℕ → Option Page) (t : ℕ → Entry) (n : ℕ) → (t n).mapped ≡ false → pages_in pool t n ≡ None
page_unmapped pool t n m = ap (λ (b : Bool). option_map (value_in (t n)) (if b then pool (t n).key else None)) m

pub not_true : (b : Bool) → not b ≡ true → b ≡ false
not_true true e = absurd (false≢true e)
not_true false e = refl

pub not_false : (b : Bool) → not b ≡ false → b ≡ true
not_false true e = refl
not_false false e = absurd (false≢true (sym e))

pub gathered_none : {X : Type 0} (n : ℕ) (f : ℕ → Option X) → ((q : ℕ) → f q ≡ None) → (q : ℕ) → at_number (gathered n f) q ≡ None
gathered_none n f all q = elim (cases_lt q n) [ inl w ↦ gathered_below n f q w ∙ all q | inr w ↦ gathered_above n f q w ]

-- ---- page tables and the value that stands for what they contain

pub record StandFor (pool : Slab Page) (table : Table) (kept : List (Option Table)) (v : TablesValue) : Type 0 where
  pub shared : AreShared (slab_get pool) (entry_at table) kept
  pub view : value_of (contents_in pool table kept) ≡ v

pub stand : (pool : Slab Page) (table : Table) (kept : List (Option Table)) (v : TablesValue) →
    AreShared (slab_get pool) (entry_at table) kept → value_of (contents_in pool table kept) ≡ v → StandFor pool table kept v
stand pool table kept v shared view = record { shared = shared; view = view }

module _ {pool : Slab Page} {table : Table} {kept : List (Option Table)} {v : TablesValue} (s : StandFor pool table kept v) where
  pub seen : contents_of v ≡ contents_in pool table kept
  seen = ap contents_of (sym s.view) ∙ contents_is (contents_in pool table kept)
      (λ n l. ap (option_map (value_in (entry_at table n))) (high (slab_get pool) (entry_at table) s.shared.current n l))
      (λ n l. ap (option_map (λ (p : Page). p.count)) (high (slab_get pool) (entry_at table) s.shared.current n l))
      (λ i l. ap (option_map (λ t. pages_in (slab_get pool) (entry_at t))) (get_or_past kept i None (omega (arith, s.shared.few))))
      (kept_high (slab_get pool) kept s.shared.slots)

  pub pages_seen : (n : ℕ) → (contents_of v).pages n ≡ pages_in (slab_get pool) (entry_at table) n
  pages_seen n = ap (λ (c : Contents). c.pages n) seen

  -- an entry that allows something is of a page
  pub allows_mapped : (test : Permissions → Bool) → test NO_PAGE.permissions ≡ false → (n : ℕ) (e : Entry) → e ≡ entry_at table n →
      test e.permissions ≡ true → (entry_at table n).mapped ≡ true
  allows_mapped test nothing n e is allowed =
      allowed_mapped (slab_get pool) (entry_at table) n test s.shared.current nothing
      (ap (λ (d : Entry). test d.permissions) (sym is) ∙ allowed)

  pub shown_page : (n : ℕ) (e : Entry) (p : Page) (bytes : List ℕ) → e ≡ entry_at table n → e.mapped ≡ true →
      slab_get pool e.key ≡ Some p → bytes ≡ p.bytes.value → Some (page_of e bytes) ≡ (contents_of v).pages n
  shown_page n e p bytes is mapped there same =
      ap (λ (bs : List ℕ). Some (page_of e bs)) same ∙ ap (λ (d : Entry). Some (value_in d p)) is
      ∙ sym (pages_seen n ∙ page_mapped (slab_get pool) (entry_at table) n p (ap (λ (d : Entry). d.mapped) (sym is) ∙ mapped)
      (ap (λ (d : Entry). slab_get pool d.key) (sym is) ∙ there))

  pub shown_none : (n : ℕ) (e : Entry) → e ≡ entry_at table n → e.mapped ≡ false → (contents_of v).pages n ≡ None
  shown_none n e is mapped =
      pages_seen n ∙ page_unmapped (slab_get pool) (entry_at table) n (ap (λ (d : Entry). d.mapped) (sym is) ∙ mapped)

  -- what the entry doesn't allow the page doesn't
  pub shown_not : (test : Permissions → Bool) (n : ℕ) {e : Entry} → e ≡ entry_at table n → test e.permissions ≡ false →
      allows test ((contents_of v).pages n) ≡ false
  shown_not test n is not = ap (allows test) (pages_seen n) ∙ by_page (page_in (slab_get pool) (entry_at table n)) where
    by_page : (o : Option Page) → allows test (option_map (value_in (entry_at table n)) o) ≡ false
    by_page None = refl
    by_page (Some p) = ap (λ (d : Entry). test d.permissions) (sym is) ∙ not

  -- the bytes of a page, where its entry allows what is asked
  pub no_bytes : (test : Permissions → Bool) (n : ℕ) {e : Entry} → e ≡ entry_at table n → test e.permissions ≡ false →
      None ≡ bytes_if (allows test ((contents_of v).pages n)) ((contents_of v).pages n)
  no_bytes test n is not = sym (ap (λ (b : Bool). bytes_if b ((contents_of v).pages n)) (shown_not test n is not))

  pub shown_bytes : (test : Permissions → Bool) → test NO_PAGE.permissions ≡ false → (n : ℕ) {e : Entry} {p : Page} {bytes : List ℕ} →
      e ≡ entry_at table n → test e.permissions ≡ true → slab_get pool e.key ≡ Some p → bytes ≡ p.bytes.value →
      Some bytes ≡ bytes_if (allows test ((contents_of v).pages n)) ((contents_of v).pages n)
  shown_bytes test nothing n {e = e} {p = p} {bytes = bytes} is allowed there same =
      let mapped = ap (λ (d : Entry). d.mapped) is ∙ allows_mapped test nothing n e is allowed in
      sym (ap (λ (b : Bool). bytes_if b (Some (page_of e bytes))) allowed)
      ∙ ap (λ (o : Option PageValue). bytes_if (allows test o) o) (shown_page n e p bytes is mapped there same)

  -- what a live snapshot has
  pub slot_seen : (P : (ℕ → Option PageValue) → Type 0) (i : ℕ) {t : Table} → get_or kept i None ≡ Some t →
      P (pages_in (slab_get pool) (entry_at t)) → IsSomeAnd ((contents_of v).kept i) P
  slot_seen P i e holds =
      let same = ap (λ (c : Contents). c.kept i) seen ∙ ap (option_map (λ (u : Table). pages_in (slab_get pool) (entry_at u))) e in
      subst (λ (o : Option (ℕ → Option PageValue)). IsSomeAnd o P) (sym same) holds

-- a live snapshot has a slot
pub slot_there : (pool : Slab Page) (table : Table) (kept : List (Option Table)) (v : TablesValue) (i : ℕ) →
    AreShared (slab_get pool) (entry_at table) kept → value_of (contents_in pool table kept) ≡ v → IsSome ((contents_of v).kept i) →
    IsSome (get_or kept i None)
slot_there pool table kept v i h view live =
    by_slot (get_or kept i None) (subst (λ (c : Contents). IsSome (c.kept i)) (seen (stand pool table kept v h view)) live) where
      by_slot : (o : Option Table) → IsSome (option_map (λ t. pages_in (slab_get pool) (entry_at t)) o) → IsSome o
      by_slot None e = e
      by_slot (Some t) e = refl

-- and in it a table
pub slot_table : (pool : Slab Page) (t : ℕ → Entry) (kept : List (Option Table)) (i : ℕ) (u : Table) → AreShared (slab_get pool) t kept →
    get_or kept i None ≡ Some u → IsTableOf (slab_get pool) (entry_at u)
slot_table pool t kept i u h e = subst (λ (o : Option Table). IsTableOf (slab_get pool) (slot_entry o)) e (h.slots i)

-- a change of what page tables contain, as one of the values that they stand for
pub carried : {pool new : Slab Page} {table later : Table} {kept left : List (Option Table)} {v w : TablesValue} →
    StandFor pool table kept v →
    StandFor new later left w → (R : Contents → Contents → Type 0) → R (contents_in pool table kept) (contents_in new later left) →
    R (contents_of v) (contents_of w)
carried {pool = pool} {table = table} {kept = kept} {w = w} s t R r =
    subst (λ (c : Contents). R c (contents_of w)) (sym (seen s))
    (subst (λ (d : Contents). R (contents_in pool table kept) d) (sym (seen t)) r)

-- what comes next
pub next_some : (pool : ℕ → Option Page) (t : ℕ → Entry) (least n : ℕ) → IsTableOf pool t → least ≤ n → n < 0x80000 → (t n).mapped ≡ true →
    ((q : ℕ) → least ≤ q → q < n → (t q).mapped ≡ false) → IsNext (pages_in pool t) least (Some n)
next_some pool t least n h low high here free =
    let f = found pool t n h here in
    (low, high, subst IsSome (sym (page_mapped pool t n f.0 here f.1)) refl, λ q a b. page_unmapped pool t q (free q a b))

pub next_none : (pool : ℕ → Option Page) (t : ℕ → Entry) (least : ℕ) → IsTableOf pool t →
    ((q : ℕ) → least ≤ q → q < 0x80000 → (t q).mapped ≡ false) → IsNext (pages_in pool t) least None
next_none pool t least h free q l = elim (cases_lt q 0x80000) [
  | inl w ↦ page_unmapped pool t q (free q l w)
  | inr w ↦ ap (option_map (value_in (t q))) (high pool t h q w)
]
