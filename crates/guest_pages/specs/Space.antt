-- What an address space stands for.
use Rattle.std.specs.Prelude.{◌≡◌, ℕ, ◌+◌, ◌/◌, ◌%◌, ◌<◌, ◌≤◌, Bool, true, false, if◌then◌else◌, length, Option, Some, None, IfSome, is_some, IsTrue, slice_index, Result, OnOk, OnErr}
use Rattle.std.specs.Option.{option_map}
use Rattle.std.specs.Int.{w8, w16, w32, from_le_bytes}
use Rattle.rrv_model.specs.Memory.{Memory, Cell, readable, writable, executable, all_cells, can_read, can_write, can_execute, bytes_at, page_bytes, page_count}
use Rattle.rrv_model.specs.Step.{word_at}
use Rattle.rrv_model.specs.declared.limits.TheConstants.{MAX_PAGES}
use Rattle.page_tables.specs.Contents.{PageValue, TablesValue, contents_of}
use Rattle.page_tables.specs.Changes.{IsOwn}
use Rattle.page_tables.specs.declared.page_tables.PutFault.{PutFault}
use Rattle.page_tables.specs.declared.page_tables.PutFault.TheVariants as errors
use Rattle.guest_pages.specs.declared.page.Access.{Access}
use Rattle.guest_pages.specs.declared.page.Access.TheVariants as accesses
use Rattle.guest_pages.specs.declared.fault.PageFault.{PageFault}
use Rattle.guest_pages.specs.declared.fault.PageFault.TheVariants as faults

-- a space as contracts see it: the pages of the space and of each live snapshot, and how many of these have each
abbrev pub SpaceValue : Type 0
SpaceValue = TablesValue

-- the page at each number, where there is one
abbrev pub PageMap : Type 0
PageMap = ℕ → Option PageValue

abbrev pub page_at : PageMap → ℕ → Option PageValue
page_at pages n = pages n

abbrev pub cell_in : ℕ → PageValue → Cell
cell_in at p = record { byte = slice_index p.bytes at; permissions = p.permissions }

-- the memory that pages stand for
unfoldable pub memory_in : PageMap → Memory
memory_in pages a = option_map (cell_in (a % page_bytes)) (page_at pages (a / page_bytes))

-- the memory that a space stands for
abbrev pub memory_of : SpaceValue → Memory
memory_of s = memory_in (contents_of s).pages

unfoldable pub snapshots_in : (ℕ → Option PageMap) → ℕ → Option Memory
snapshots_in kept n = option_map memory_in (kept n)

-- the memory of each live snapshot, by its token's number
abbrev pub snapshots_of : SpaceValue → ℕ → Option Memory
snapshots_of s = snapshots_in (contents_of s).kept

-- ---- what a change leaves

-- the memory is this now, and no snapshot changes
pub record Becomes (m : Memory) (old new : SpaceValue) : Type 0 where
  pub memory : memory_of new ≡ m
  pub snapshots : snapshots_of new ≡ snapshots_of old

-- so it is where a call is not refused; one that is refused changes nothing
pub record BecomesOrStays {T E : Type 0} (result : Result T E) (m : Memory) (old new : SpaceValue) : Type 0 where
  pub ok : OnOk result (memory_of new ≡ m)
  pub err : OnErr result (new ≡ old)
  pub snapshots : snapshots_of new ≡ snapshots_of old

-- ---- what holds of every space

-- a page n that may be mapped
pub record IsPage (n : ℕ) (p : PageValue) : Type 0 where
  pub low : 1 ≤ n
  pub high : n < 0x80000
  pub full : length p.bytes ≡ page_bytes
  pub bytes : (k : ℕ) → slice_index p.bytes k < 256
  pub readable : IsTrue p.permissions.write → IsTrue p.permissions.read

abbrev pub AreEachPage : PageMap → Type 0
AreEachPage pages = (n : ℕ) → IfSome (page_at pages n) (IsPage n)

pub record ArePages (pages : PageMap) : Type 0 where
  pub each : AreEachPage pages
  pub limit : page_count (memory_in pages) ≤ MAX_PAGES

-- so many pages are mapped
pub record IsSpace (s : SpaceValue) (mapped : ℕ) : Type 0 where
  pub pages : ArePages (contents_of s).pages
  pub kept : (i : ℕ) → IfSome ((contents_of s).kept i) AreEachPage
  pub count : mapped ≡ page_count (memory_of s)

-- ---- what is loaded

-- the byte of a cell that passes the test
abbrev pub cell_byte : (Option Cell → Bool) → Option Cell → Option ℕ
cell_byte test None = None
cell_byte test (Some c) = if test (Some c) then Some c.byte else None

abbrev pub fetched_word : Memory → ℕ → Option ℕ
fetched_word m a = if executable m a 4 then Some (word_at m a) else None

abbrev pub loaded_byte : Memory → ℕ → Option ℕ
loaded_byte m a = if readable m a 1 then Some (from_le_bytes w8 (bytes_at m a 1)) else None

abbrev pub loaded_half : Memory → ℕ → Option ℕ
loaded_half m a = if readable m a 2 then Some (from_le_bytes w16 (bytes_at m a 2)) else None

abbrev pub loaded_word : Memory → ℕ → Option ℕ
loaded_word m a = if readable m a 4 then Some (from_le_bytes w32 (bytes_at m a 4)) else None

-- ---- tests

-- a test of the permissions of a page, if it is there
abbrev pub page_passes : (Option Cell → Bool) → Option PageValue → Bool
page_passes test p = test (option_map (cell_in 0) p)

abbrev pub test_of : Access → Option Cell → Bool
test_of accesses.Presence = is_some
test_of accesses.Read = can_read
test_of accesses.Write = can_write
test_of accesses.Execute = can_execute

-- ---- refusals

-- count bytes from a are there
abbrev pub present : Memory → ℕ → ℕ → Bool
present m a count = all_cells is_some m a count

-- a store of count bytes from a is refused so: the first refusal that applies to any byte, and Memory where none does
abbrev pub IsStoreRefusal : Memory → ℕ → ℕ → PageFault → Type 0
IsStoreRefusal m a count faults.NotMapped = (present m a count ≡ false) × (writable m a count ≡ false)
IsStoreRefusal m a count faults.NotAllowed = (present m a count ≡ true) × (writable m a count ≡ false)
IsStoreRefusal m a count faults.TooManyPages = ⊥
IsStoreRefusal m a count faults.Memory = writable m a count ≡ true

-- so is a load, which takes no memory
abbrev pub IsLoadRefusal : Memory → ℕ → ℕ → PageFault → Type 0
IsLoadRefusal m a count faults.NotMapped = (present m a count ≡ false) × (readable m a count ≡ false)
IsLoadRefusal m a count faults.NotAllowed = (present m a count ≡ true) × (readable m a count ≡ false)
IsLoadRefusal m a count faults.TooManyPages = ⊥
IsLoadRefusal m a count faults.Memory = ⊥

-- count bytes from a lie in pages that are the space's own
abbrev pub AreOwnPages : SpaceValue → ℕ → ℕ → Type 0
AreOwnPages s a count = (k : ℕ) → k < count → IsOwn (contents_of s) ((a + k) / page_bytes)

-- a fill of count bytes from a takes no memory: they are there, in pages that no snapshot shares
abbrev pub CanFill : SpaceValue → ℕ → ℕ → Type 0
CanFill s a count = IsTrue (present (memory_of s) a count) × AreOwnPages s a count

-- what was a space's own still is
abbrev pub KeepsOwn : SpaceValue → SpaceValue → Type 0
KeepsOwn old new = (n : ℕ) → IsOwn (contents_of old) n → IsOwn (contents_of new) n

-- a write into a page is refused so
abbrev pub fault_for : PutFault → PageFault
fault_for errors.NotMapped = faults.NotMapped
fault_for errors.NotAllowed = faults.NotAllowed
fault_for errors.Memory = faults.Memory
