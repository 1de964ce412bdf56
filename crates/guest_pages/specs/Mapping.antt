-- What mapping leaves.
use Rattle.std.specs.Prelude.{◌≡◌, ℕ, zero, suc, ◌+◌, ◌*◌, ◌<◌, ◌≤◌, ◌||◌, if◌then◌else◌, List, [], ◌∷◌, ◌++◌, Option, Some, None, is_some, Contains, replicate}
use Rattle.std.specs.List.Sorted.{IsStrictlyIncreasing}
use Rattle.rrv_model.specs.declared.limits.TheConstants.{MAX_PAGES}
use Rattle.page_permissions.specs.declared.page.Permissions.{Permissions}
use Rattle.rrv_model.specs.Memory.{Memory, Cell, is_within, page_bytes, page_count}
use Rattle.page_tables.specs.Contents.{PageValue, contents_of}
use Rattle.page_tables.specs.Changes.{IsOwn}
use Rattle.guest_pages.specs.declared.fault.PageFault.{PageFault}
use Rattle.guest_pages.specs.declared.fault.PageFault.TheVariants as faults
use Rattle.guest_pages.specs.Space.{SpaceValue, PageMap, page_at}

-- a mapping that would leave this memory is refused so
abbrev pub IsMapRefusal : Memory → PageFault → Type 0
IsMapRefusal after faults.NotMapped = ⊥
IsMapRefusal after faults.NotAllowed = ⊥
IsMapRefusal after faults.TooManyPages = MAX_PAGES < page_count after
IsMapRefusal after faults.Memory = page_count after ≤ MAX_PAGES

-- ---- a page for a loaded range

abbrev pub union : Permissions → Permissions → Permissions
union p q = record { read = p.read || q.read; write = p.write || q.write; execute = p.execute || q.execute }

abbrev pub covered_cell : Permissions → Option Cell → Cell
covered_cell permissions None = record { byte = 0; permissions = permissions }
covered_cell permissions (Some c) = record c { permissions = union c.permissions permissions }

-- page p is there, with these permissions too
abbrev pub covered : ℕ → Permissions → Memory → Memory
covered p permissions m x =
    if is_within (p * page_bytes) page_bytes x then Some (covered_cell permissions (m x)) else m x

-- ---- the steps of a mapping

-- the numbers of count pages from first at which there is none
unfoldable pub missing : PageMap → ℕ → ℕ → List ℕ
missing pages first zero = []
missing pages first (suc count) =
    missing pages first count ++ (if is_some (page_at pages (first + count)) then [] else (first + count) ∷ [])

-- a page of zeros with these permissions
abbrev pub clear_page : Permissions → PageValue
clear_page permissions = record { permissions = permissions; bytes = replicate 4096 0 }

-- the same page at a number, or none in either
abbrev pub SameAt : PageMap → PageMap → ℕ → Type 0
SameAt pages others q = page_at pages q ≡ page_at others q

-- each page of a range is the space's own
abbrev pub AreOwnIn : SpaceValue → ℕ → ℕ → Type 0
AreOwnIn s first count = (q : ℕ) → first ≤ q → q < first + count → IsOwn (contents_of s) q

-- other pages than count from first stay, and so do those of snapshots
pub record KeepsOutside (first count : ℕ) (old new : SpaceValue) : Type 0 where
  pub below : (q : ℕ) → q < first → (contents_of new).pages q ≡ (contents_of old).pages q
  pub above : (q : ℕ) → first + count ≤ q → (contents_of new).pages q ≡ (contents_of old).pages q
  pub kept : (contents_of new).kept ≡ (contents_of old).kept

-- the numbers below n that don't have a property, rising
pub record ListsOthers (P : ℕ → Type 0) (n : ℕ) (numbers : List ℕ) : Type 0 where
  pub rising : IsStrictlyIncreasing numbers
  pub below : (q : ℕ) → Contains numbers q → q < n
  pub fail : (q : ℕ) → Contains numbers q → P q → ⊥
  pub pass : (q : ℕ) → q < n → (Contains numbers q → ⊥) → P q

-- a number from least on, or the end of all pages: those before it are passed over
pub record SkipsTo (least number : ℕ) (IsPassed : ℕ → Type 0) : Type 0 where
  pub low : least ≤ 0x80000 → least ≤ number
  pub high : number ≤ 0x80000
  pub passed : (q : ℕ) → least ≤ q → q < number → IsPassed q
