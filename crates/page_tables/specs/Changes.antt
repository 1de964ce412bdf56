-- How calls change what page tables contain.
use Rattle.std.specs.Prelude.{◌≡◌, ◌≢◌, ℕ, ◌+◌, ◌<◌, ◌≤◌, ◌^◌, ◌==◌, Bool, true, false, if◌then◌else◌, List, [], ◌∷◌, Option, Some, None, IsSome, IfSome, IsSomeAnd, Result, OnOk, OnErr, IfErr, slice_set, replicate}
use Rattle.std.specs.List.{list_any}
use Rattle.std.specs.Option.{option_map}
use Rattle.page_permissions.specs.declared.page.Permissions.{Permissions}
use Rattle.page_tables.specs.declared.pool.Page.{Page}
use Rattle.page_tables.specs.declared.page_tables.PageView.{PageView}
use Rattle.page_tables.specs.declared.page_tables.PutFault.{PutFault}
use Rattle.page_tables.specs.declared.page_tables.PutFault.TheVariants as errors
use Rattle.page_tables.specs.Contents.{PageValue, TablesValue, Contents, FillPage, contents_of, sum_below}
use Rattle.slab.specs.Slab.{Slab, get, slab_len, ContainsKey, HasRoomFor}

-- the current table alone has page n: to write it takes no memory
abbrev pub IsOwn : Contents → ℕ → Type 0
IsOwn c n = c.counts n ≡ Some 1

-- bytes written into a list, from a place on
abbrev pub written : List ℕ → ℕ → List ℕ → List ℕ
written bytes at [] = bytes
written bytes at (b ∷ bs) = written (slice_set bytes at b) (at + 1) bs

abbrev pub with_bytes : ℕ → List ℕ → PageValue → PageValue
with_bytes at bs p = record p { bytes = written p.bytes at bs }

-- the same page of the pool, but for its bytes
pub record IsRewritten (bytes : List ℕ) (p q : Page) : Type 0 where
  pub number : q.number ≡ p.number
  pub count : q.count ≡ p.count
  pub bytes_are : q.bytes.value ≡ bytes
  pub filled : FillPage q.bytes.value

-- bytes are written over those of a page from a place on, and fill it still
pub record WritesOver (at : ℕ) (bs old new : List ℕ) : Type 0 where
  pub put : new ≡ written old at bs
  pub filled : FillPage new

-- of the pool's pages only the one of this key changes, to what this makes of it
pub record ChangesPage (key : ℕ) (change : Option Page → Option Page) (old new : Slab Page) : Type 0 where
  pub here : get new key ≡ change (get old key)
  pub others : (k : ℕ) → k ≢ key → get new k ≡ get old k
  pub room : new.capacity ≡ old.capacity

-- and there are as many
pub record Recounts (key : ℕ) (change : Option Page → Option Page) (old new : Slab Page) : Type 0 where
  pub count : ChangesPage key change old new
  pub len : slab_len new ≡ slab_len old

-- a page comes into the pool under this key, which was free
pub record Adds (key : ℕ) (page : Page) (old new : Slab Page) : Type 0 where
  pub free : get old key ≡ None
  pub here : get new key ≡ Some page
  pub others : (k : ℕ) → k ≢ key → get new k ≡ get old k
  pub len : slab_len new ≡ slab_len old + 1
  pub room : new.capacity ≡ old.capacity

-- each page of the pool stays
pub record KeepsPages (old new : Slab Page) : Type 0 where
  pub same : (k : ℕ) → get new k ≡ get old k
  pub len : slab_len new ≡ slab_len old

-- the pool has room for so many more pages, and each key fits an entry
pub record IsRoomyFor (pool : Slab Page) (count : ℕ) : Type 0 where
  pub room : HasRoomFor pool count
  pub small : pool.capacity ≤ 2 ^ 32

-- the pool has a page of this key, and so many bytes fit it from a place on
pub record HasPlace (pool : Slab Page) (key at count : ℕ) : Type 0 where
  pub there : ContainsKey pool key
  pub fits : at + count ≤ 4096

-- bytes are written into the pool's page of this key from a place on, and nothing else changes
pub record Rewrites (key at : ℕ) (bs : List ℕ) (old new : Slab Page) : Type 0 where
  pub here : IfSome (get old key) (λ p. IsSomeAnd (get new key) (IsRewritten (written p.bytes.value at bs) p))
  pub others : (k : ℕ) → k ≢ key → get new k ≡ get old k
  pub len : slab_len new ≡ slab_len old

-- nothing changes but page n of the current table, and how many pages there are
pub record KeepsOthers (n : ℕ) (old new : Contents) : Type 0 where
  pub pages : (q : ℕ) → q ≢ n → new.pages q ≡ old.pages q
  pub counts : (q : ℕ) → q ≢ n → new.counts q ≡ old.counts q
  pub kept : new.kept ≡ old.kept

-- ---- permissions that are asked for

abbrev pub allows : (Permissions → Bool) → Option PageValue → Bool
allows test None = false
allows test (Some p) = test p.permissions

abbrev pub allows_read : Option PageValue → Bool
allows_read = allows (λ p. p.read)

abbrev pub allows_write : Option PageValue → Bool
allows_write = allows (λ p. p.write)

abbrev pub allows_execute : Option PageValue → Bool
allows_execute = allows (λ p. p.execute)

abbrev pub bytes_if : Bool → Option PageValue → Option (List ℕ)
bytes_if allowed page = if allowed then option_map (λ p. p.bytes) page else None

-- ---- how many pages a change adds or takes away

-- a page of its own for a number that has these sharers
abbrev pub added : Option ℕ → ℕ
added None = 1
added (Some count) = if count == 1 then 0 else 1

-- the page of a number goes
abbrev pub freed : Option ℕ → ℕ
freed None = 0
freed (Some count) = if count == 1 then 1 else 0

-- pages of their own for the numbers that pass a test
abbrev pub added_at : (ℕ → Bool) → (ℕ → Option ℕ) → ℕ
added_at test counts = sum_below 0x80000 (λ n. if test n then added (counts n) else 0)

-- ---- the changes

-- page n is there, and has these bytes from a place on; nothing else changes
pub record IsWritten (n at : ℕ) (bs : List ℕ) (old new : Contents) : Type 0 where
  pub page : new.pages n ≡ option_map (with_bytes at bs) (old.pages n)
  pub own : IsOwn new n
  pub rest : KeepsOthers n old new
  pub live : new.live ≡ old.live + added (old.counts n)

-- number n has this page, which no snapshot shares
pub record IsPlaced (n : ℕ) (page : PageValue) (old new : Contents) : Type 0 where
  pub here : new.pages n ≡ Some page
  pub own : IsOwn new n
  pub rest : KeepsOthers n old new
  pub live : new.live ≡ old.live + added (old.counts n)

-- number n, which had none, has this page
pub record IsAttached (n : ℕ) (page : PageValue) (old new : Contents) : Type 0 where
  pub here : new.pages n ≡ Some page
  pub own : IsOwn new n
  pub rest : KeepsOthers n old new
  pub live : new.live ≡ old.live + 1

-- page n is as it was, and no snapshot shares it
pub record IsUnshared (n : ℕ) (old new : Contents) : Type 0 where
  pub here : new.pages n ≡ old.pages n
  pub own : IsOwn new n
  pub rest : KeepsOthers n old new
  pub live : new.live ≡ old.live + added (old.counts n)

-- number n has no page
pub record IsRemoved (n : ℕ) (old new : Contents) : Type 0 where
  pub here : new.pages n ≡ None
  pub count : new.counts n ≡ None
  pub rest : KeepsOthers n old new
  pub live : new.live + freed (old.counts n) ≡ old.live

abbrev pub with_permissions : Permissions → PageValue → PageValue
with_permissions permissions p = record p { permissions = permissions }

-- page n has these permissions
pub record IsProtected (n : ℕ) (permissions : Permissions) (old new : Contents) : Type 0 where
  pub page : new.pages n ≡ option_map (with_permissions permissions) (old.pages n)
  pub count : new.counts n ≡ old.counts n
  pub rest : KeepsOthers n old new
  pub live : new.live ≡ old.live

-- the pages are kept under a number that was free, and shared
pub record IsKept (number : ℕ) (old new : Contents) : Type 0 where
  pub free : old.kept number ≡ None
  pub here : new.kept number ≡ Some old.pages
  pub others : (i : ℕ) → i ≢ number → new.kept i ≡ old.kept i
  pub pages : new.pages ≡ old.pages
  pub counts : (n : ℕ) → new.counts n ≡ option_map (λ count. count + 1) (old.counts n)
  pub live : new.live ≡ old.live

-- nothing is kept under a number any more
pub record IsReleased (number : ℕ) (old new : Contents) : Type 0 where
  pub gone : new.kept number ≡ None
  pub others : (i : ℕ) → i ≢ number → new.kept i ≡ old.kept i
  pub pages : new.pages ≡ old.pages
  pub own : (n : ℕ) → IsOwn old n → IsOwn new n
  pub live : new.live ≤ old.live

-- what a reader sees
abbrev pub shown : Option PageView → Option PageValue
shown None = None
shown (Some v) = Some (record { permissions = v.permissions; bytes = v.bytes.now })

-- the least number from this one on that has a page
abbrev pub IsNext : (ℕ → Option PageValue) → ℕ → Option ℕ → Type 0
IsNext pages least None = (q : ℕ) → least ≤ q → pages q ≡ None
IsNext pages least (Some n) =
    (least ≤ n) × (n < 0x80000) × (IsSome (pages n)) × ((q : ℕ) → least ≤ q → q < n → pages q ≡ None)

-- a write into this page is refused so
abbrev pub IsPutRefusal : Option PageValue → PutFault → Type 0
IsPutRefusal page errors.NotMapped = page ≡ None
IsPutRefusal page errors.NotAllowed = IsSome page × (allows_write page ≡ false)
IsPutRefusal page errors.Memory = allows_write page ≡ true

-- why a write into this page is refused before it takes memory
abbrev pub put_refusal : Option PageValue → Option PutFault
put_refusal None = Some errors.NotMapped
put_refusal (Some p) = if p.permissions.write then None else Some errors.NotAllowed

-- bytes are written into page n from a place on, which may be written; where the write is refused, nothing changes
pub record Puts {T : Type 0} (result : Result T PutFault) (n at : ℕ) (bs : List ℕ) (old new : TablesValue) : Type 0 where
  pub allowed : OnOk result (allows_write ((contents_of old).pages n) ≡ true)
  pub written : OnOk result (IsWritten n at bs (contents_of old) (contents_of new))
  pub refused : IfErr result (IsPutRefusal ((contents_of old).pages n))
  pub err : OnErr result (new ≡ old)

-- ---- several pages

abbrev pub is_listed : List ℕ → ℕ → Bool
is_listed numbers q = list_any (λ n. n == q) numbers

-- each page of these numbers is its own
abbrev pub AreOwn : List ℕ → Contents → Type 0
AreOwn numbers c = (n : ℕ) → is_listed numbers n ≡ true → IsOwn c n

-- a page, or where there is none one of zeros that allows nothing
abbrev pub page_or_zeros : Option PageValue → PageValue
page_or_zeros None = record { permissions = record { read = false; write = false; execute = false }; bytes = replicate 4096 0 }
page_or_zeros (Some p) = p

-- each page of these numbers is its own, and as it was, or of zeros; nothing else changes
pub record AreOwned (numbers : List ℕ) (old new : Contents) : Type 0 where
  pub here : (n : ℕ) → is_listed numbers n ≡ true → new.pages n ≡ Some (page_or_zeros (old.pages n))
  pub own : AreOwn numbers new
  pub pages : (n : ℕ) → is_listed numbers n ≡ false → new.pages n ≡ old.pages n
  pub counts : (n : ℕ) → is_listed numbers n ≡ false → new.counts n ≡ old.counts n
  pub kept : new.kept ≡ old.kept
  pub live : new.live ≡ old.live + added_at (is_listed numbers) old.counts
