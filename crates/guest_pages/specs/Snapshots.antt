-- What is read of a page, and what changed since a snapshot.
use Rattle.std.specs.Prelude.{◌≡◌, ◌≢◌, ℕ, ◌+◌, ◌*◌, ◌/◌, ◌<◌, ◌≤◌, true, false, List, Option, Some, None, slice_index, Contains}
use Rattle.std.specs.List.Sorted.{IsStrictlyIncreasing}
use Rattle.rrv_model.specs.Memory.{Memory, is_mapped, page_bytes}
use Rattle.guest_pages.specs.declared.page.PageView.{PageView}

-- so is page n of this memory: its permissions and bytes, or nothing where it isn't mapped
abbrev pub IsPageOf : Memory → ℕ → Option PageView → Type 0
IsPageOf m n None = (k : ℕ) → k < page_bytes → m (n * page_bytes + k) ≡ None
IsPageOf m n (Some v) = (k : ℕ) → k < page_bytes →
    m (n * page_bytes + k) ≡ Some (record { byte = slice_index v.bytes.now k; permissions = v.permissions })

-- the least mapped page from this number on
abbrev pub IsNextPage : Memory → ℕ → Option ℕ → Type 0
IsNextPage m least None = (q : ℕ) → least ≤ q → is_mapped m q ≡ false
IsNextPage m least (Some n) =
    (least ≤ n) × (n < 0x80000) × (is_mapped m n ≡ true) × ((q : ℕ) → least ≤ q → q < n → is_mapped m q ≡ false)

-- the least mapped page from this number on, and what it is
abbrev pub IsPageFrom : Memory → ℕ → Option (ℕ × PageView) → Type 0
IsPageFrom m least None = IsNextPage m least None
IsPageFrom m least (Some found) = IsNextPage m least (Some found.0) × IsPageOf m found.0 (Some found.1)

-- two memories have the same at every address of page n
abbrev pub SameOn : ℕ → Memory → Memory → Type 0
SameOn n before now = (a : ℕ) → a / page_bytes ≡ n → before a ≡ now a

-- they differ at some address of page n: in its byte, in its permissions or in being mapped
abbrev pub DifferOn : ℕ → Memory → Memory → Type 0
DifferOn n before now = (a : ℕ) × (a / page_bytes ≡ n) × (before a ≢ now a)

-- the numbers of all pages on which two memories differ, rising
pub record AreChanges (before now : Memory) (numbers : List ℕ) : Type 0 where
  pub rising : IsStrictlyIncreasing numbers
  pub differ : (n : ℕ) → Contains numbers n → DifferOn n before now
  pub others : (n : ℕ) → (Contains numbers n → ⊥) → SameOn n before now
