-- Tables that share the pages of a pool: a key stands in a table only at its page's own number, a page's count is the
-- number of tables that have it there, no count is 0, and each page has 4,096 bytes.
use Rattle.std.specs.Prelude.{◌≡◌, ◌≢◌, ℕ, zero, suc, ◌+◌, ◌-◌, ◌<◌, ◌≤◌, ◌^◌, ◌==◌, Bool, true, false, ◌&&◌, nat_lt, if◌then◌else◌, List, length, Option, Some, None, IfSome, IsSome, IsSomeAnd, slice_index_or, count_by}
use Rattle.std.specs.Option.{option_map}
use Rattle.slab.specs.Slab.{Slab, get, slab_len}
use Rattle.page_tables.specs.declared.table.TheConstants.{NO_PAGE}
use Rattle.page_tables.specs.declared.table.Entry.{Entry}
use Rattle.page_tables.specs.declared.table.Table.{Table}
use Rattle.page_tables.specs.declared.pool.Page.{Page}
use Rattle.page_tables.specs.Table.{entry_at}
use Rattle.page_tables.specs.Contents.{PageValue, Contents, FillPage}

-- an entry is of the page with this key
abbrev pub entry_has : Entry → ℕ → Bool
entry_has e k = e.mapped && (e.key == k)

-- a table has this key at a number
abbrev pub has : (ℕ → Entry) → ℕ → ℕ → Bool
has t n k = entry_has (t n) k

-- a snapshot that isn't live has nothing
abbrev pub slot_entry : Option Table → ℕ → Entry
slot_entry None n = NO_PAGE
slot_entry (Some t) n = entry_at t n

abbrev pub slot_at : List (Option Table) → ℕ → ℕ → Entry
slot_at kept i = slot_entry (slice_index_or kept i None)

-- how many tables have this key at a number: the current one, and those of live snapshots
abbrev pub sharers : (ℕ → Entry) → List (Option Table) → ℕ → ℕ → ℕ
sharers t kept n k = (if has t n k then 1 else 0) + count_by (λ s. has (slot_entry s) n k) kept

-- what each entry of a table is: of a page of the pool, at that page's own number; else it allows nothing
pub record IsTableOf (pool : ℕ → Option Page) (t : ℕ → Entry) : Type 0 where
  pub low : (n : ℕ) → (t n).mapped ≡ true → n < 0x80000
  pub own : (n : ℕ) → (t n).mapped ≡ true → IsSomeAnd (pool (t n).key) (λ p. p.number ≡ n)
  pub none : (n : ℕ) → (t n).mapped ≡ false → (t n).permissions ≡ NO_PAGE.permissions

pub record AreShared (pool : ℕ → Option Page) (t : ℕ → Entry) (kept : List (Option Table)) : Type 0 where
  pub current : IsTableOf pool t
  pub slots : (i : ℕ) → IsTableOf pool (slot_at kept i)
  pub counted : (k : ℕ) → IfSome (pool k) (λ p. (p.count ≡ sharers t kept p.number k) × (1 ≤ p.count))
  pub few : length kept < 2 ^ 32 - 1
  pub filled : (k : ℕ) → IfSome (pool k) (λ p. FillPage p.bytes.value)

-- ---- what they contain

-- the page that an entry is of
abbrev pub page_in : (ℕ → Option Page) → Entry → Option Page
page_in pool e = if e.mapped then pool e.key else None

abbrev pub value_in : Entry → Page → PageValue
value_in e p = record { permissions = e.permissions; bytes = p.bytes.value }

abbrev pub pages_in : (ℕ → Option Page) → (ℕ → Entry) → ℕ → Option PageValue
pages_in pool t n = option_map (value_in (t n)) (page_in pool (t n))

abbrev pub counts_in : (ℕ → Option Page) → (ℕ → Entry) → ℕ → Option ℕ
counts_in pool t n = option_map (λ p. p.count) (page_in pool (t n))

abbrev pub kept_in : (ℕ → Option Page) → List (Option Table) → ℕ → Option (ℕ → Option PageValue)
kept_in pool kept i = option_map (λ t. pages_in pool (entry_at t)) (slice_index_or kept i None)

abbrev pub contents_in : Slab Page → Table → List (Option Table) → Contents
contents_in pool t kept = record {
  pages = pages_in (get pool) (entry_at t);
  counts = counts_in (get pool) (entry_at t);
  kept = kept_in (get pool) kept;
  live = slab_len pool;
}

-- the key of the page that a table has at number n, which may be written, and which no other table has
pub record IsOwnKey (pool : ℕ → Option Page) (t : ℕ → Entry) (n key : ℕ) : Type 0 where
  pub is : key ≡ (t n).key
  pub there : IsSome (pool key)
  pub allowed : (t n).permissions.write ≡ true
  pub own : counts_in pool t n ≡ Some 1

-- ---- counts that change

-- a page with this count; one that no table has leaves the pool
abbrev pub at_count : ℕ → Page → Option Page
at_count zero p = None
at_count (suc c) p = Some (record p { count = suc c })

abbrev pub with_count : ℕ → Option Page → Option Page
with_count count None = None
with_count count (Some p) = Some (record p { count = count })

-- a page with one sharer less
abbrev pub lowered : Option Page → Option Page
lowered None = None
lowered (Some p) = at_count (p.count - 1) p

-- and with one more
abbrev pub raised : Option Page → Option Page
raised None = None
raised (Some p) = Some (record p { count = p.count + 1 })

-- a table has this key at a number below n
abbrev pub has_below : (ℕ → Entry) → ℕ → ℕ → ℕ → Bool
has_below t n k number = nat_lt number n && has t number k

-- what a table's sharing of its pages below n makes of one
abbrev pub raised_by : (ℕ → Entry) → ℕ → ℕ → Option Page → Option Page
raised_by t n k None = None
raised_by t n k (Some p) = if has_below t n k p.number then raised (Some p) else Some p

-- and what its end makes of one
abbrev pub lowered_by : (ℕ → Entry) → ℕ → ℕ → Option Page → Option Page
lowered_by t n k None = None
lowered_by t n k (Some p) = if has_below t n k p.number then lowered (Some p) else Some p

-- ---- the slots of snapshots

-- slot i has this; the others stay
pub record IsSlotSet (i : ℕ) (slot : Option Table) (kept new : List (Option Table)) : Type 0 where
  pub here : slice_index_or new i None ≡ slot
  pub others : (j : ℕ) → j ≢ i → slice_index_or new j None ≡ slice_index_or kept j None
  pub shares : (n k : ℕ) →
      count_by (λ s. has (slot_entry s) n k) new + (if has (slot_at kept i) n k then 1 else 0)
      ≡ count_by (λ s. has (slot_entry s) n k) kept + (if has (slot_entry slot) n k then 1 else 0)
