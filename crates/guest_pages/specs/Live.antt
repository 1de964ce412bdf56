-- How many pages there are: those of a space and of its live snapshots, a shared one counted once.
use Rattle.std.specs.Prelude.{◌≡◌, ℕ, ◌+◌, ◌-◌, ◌/◌, ◌==◌, if◌then◌else◌, List, length, Option, Some, None, Result, OnOk, OnErr, IfErr, IsTrue}
use Rattle.rrv_model.specs.Memory.{page_bytes, stored, writable}
use Rattle.page_tables.specs.Contents.{contents_of, sum_below}
use Rattle.page_tables.specs.Changes.{added, added_at, freed, is_listed}
use Rattle.guest_pages.specs.declared.page.PageView.{PageView}
use Rattle.guest_pages.specs.declared.fault.PageFault.{PageFault}
use Rattle.guest_pages.specs.Space.{SpaceValue, memory_of, snapshots_of, BecomesOrStays, CanFill, KeepsOwn, IsStoreRefusal}
use Rattle.guest_pages.specs.Stores.{word_pages}

abbrev pub live_of : SpaceValue → ℕ
live_of s = (contents_of s).live

-- no snapshot is live
abbrev pub HasNoSnapshot : SpaceValue → Type 0
HasNoSnapshot s = (n : ℕ) → snapshots_of s n ≡ None

-- ---- what a call adds or takes away

-- a page of its own for number n, where it has none
abbrev pub added_for : SpaceValue → ℕ → ℕ
added_for s n = added ((contents_of s).counts n)

-- the page of number n, where no snapshot shares it
abbrev pub freed_for : SpaceValue → ℕ → ℕ
freed_for s n = freed ((contents_of s).counts n)

-- the same for each of count numbers from first
abbrev pub added_in : SpaceValue → ℕ → ℕ → ℕ
added_in s first count = sum_below count (λ k. added_for s (first + k))

abbrev pub freed_in : SpaceValue → ℕ → ℕ → ℕ
freed_in s first count = sum_below count (λ k. freed_for s (first + k))

-- how many pages count bytes from a lie in
abbrev pub pages_across : ℕ → ℕ → ℕ
pages_across a count = if count == 0 then 0 else (a + (count - 1)) / page_bytes - a / page_bytes + 1

-- pages of its own for these
abbrev pub added_across : SpaceValue → ℕ → ℕ → ℕ
added_across s a count = added_in s (a / page_bytes) (pages_across a count)

-- and for words at some places, each page counted once
abbrev pub added_words : SpaceValue → List ℕ → ℕ
added_words s places = added_at (is_listed (word_pages places)) (contents_of s).counts

-- page n is put, or unmapped
abbrev pub SetsLive : ℕ → Option PageView → SpaceValue → SpaceValue → Type 0
SetsLive n None old new = live_of new + freed_for old n ≡ live_of old
SetsLive n (Some v) old new = live_of new ≡ live_of old + added_for old n

-- ---- bytes that are filled in

-- they stand from a on; what was the space's own still is, and no page comes or goes
pub record Fills (a : ℕ) (bytes : List ℕ) (old new : SpaceValue) : Type 0 where
  pub memory : memory_of new ≡ stored a bytes (memory_of old)
  pub snapshots : snapshots_of new ≡ snapshots_of old
  pub live : live_of new ≡ live_of old
  pub own : KeepsOwn old new

-- count bytes from a can be filled in, at the cost of pages of their own, and no memory changes; a call that is refused changes nothing
pub record Prepares {T E : Type 0} (result : Result T E) (a count : ℕ) (old new : SpaceValue) : Type 0 where
  pub ready : OnOk result (CanFill new a count)
  pub memory : memory_of new ≡ memory_of old
  pub err : OnErr result (new ≡ old)
  pub snapshots : snapshots_of new ≡ snapshots_of old
  pub live : OnOk result (live_of new ≡ live_of old + added_across old a count)

-- bytes are stored from a on: all, at the cost of pages of their own, or none, and then the fault says why
pub record StoresBytes {T : Type 0} (result : Result T PageFault) (a : ℕ) (bytes : List ℕ) (old new : SpaceValue) : Type 0 where
  pub allowed : OnOk result (IsTrue (writable (memory_of old) a (length bytes)))
  pub stored : BecomesOrStays result (stored a bytes (memory_of old)) old new
  pub refused : IfErr result (IsStoreRefusal (memory_of old) a (length bytes))
  pub live : OnOk result (live_of new ≡ live_of old + added_across old a (length bytes))
