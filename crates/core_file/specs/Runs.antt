-- Runs of pages: adjacent pages with the same permissions, as many as there are.
use Rattle.std.specs.Prelude.{◌≡◌, ◌≢◌, ◌<◌, ◌⊎◌, true, false, sum_by, ℕ, zero, suc, ◌+◌, ◌*◌, ◌^◌, ◌≤◌, ◌==◌, Bool, ◌&&◌, if◌then◌else◌, List, [], ◌∷◌, reverse, Option, Some, None}
use Rattle.std.specs.List.{AllByRecursion, list_all}
use Rattle.std.specs.Option.{option_map}
use Rattle.rrv_model.specs.Memory.{Memory, Cell, bytes_at, is_mapped, page_bytes, IsPaged}
use Rattle.rrv_model.specs.declared.limits.TheConstants.{MAX_PAGES}
use Rattle.rrv_model.specs.RecordText.{permissions_byte}
use Rattle.core_file.specs.declared.runs.Run.{Run}

-- p_flags: PF_X 1, PF_W 2 and PF_R 4 as a sum
abbrev pub flags_of : Cell → ℕ
flags_of c = permissions_byte (Some c.permissions)

-- all bytes of page n are zero
abbrev pub is_blank : Memory → ℕ → Bool
is_blank m n = list_all (λ b. b == 0) (bytes_at m (n * page_bytes) page_bytes)

-- ---- page n, with its flags, and whether it is blank

-- it lies next to a run and has its flags
abbrev pub continues : ℕ → ℕ → Run → Bool
continues n flags r = (n == r.first + r.pages) && (flags == r.flags)

-- a run that it ends: the pages up to and with the last that isn't blank are filled
abbrev pub longer : Bool → Run → Run
longer blank r = record r { pages = r.pages + 1; filled = if blank then r.filled else r.pages + 1 }

-- a run that it begins, with so many filled pages in the runs before
abbrev pub begun : ℕ → ℕ → Bool → ℕ → Run
begun n flags blank before =
    record { first = n; pages = 1; filled = if blank then 0 else 1; before = before; flags = flags }

-- ---- the runs of a memory

-- the runs with page n, the highest first
abbrev pub with_page : ℕ → ℕ → Bool → List Run → List Run
with_page n flags blank [] = begun n flags blank 0 ∷ []
with_page n flags blank (r ∷ rs) =
    if continues n flags r then longer blank r ∷ rs else begun n flags blank (r.before + r.filled) ∷ r ∷ rs

-- page n, whose first cell this is; nothing where it isn't mapped
abbrev pub with_cell : Memory → ℕ → Option Cell → List Run → List Run
with_cell m n None rs = rs
with_cell m n (Some c) rs = with_page n (flags_of c) (is_blank m n) rs

-- of the pages below n, the highest first
unfoldable pub runs_below : ℕ → Memory → List Run
runs_below zero m = []
runs_below (suc n) m = with_cell m n (m (n * page_bytes)) (runs_below n m)

-- by rising address
abbrev pub runs_of : Memory → List Run
runs_of m = reverse (runs_below (2 ^ 20) m)

-- ---- sizes

-- a run of a guest's memory lies below 2 ^ 32, and so does what the file says of it
pub record Fits (r : Run) : Type 0 where
  pub some : 1 ≤ r.pages
  pub filled : r.filled ≤ r.pages
  pub high : r.first + r.pages ≤ 2 ^ 20
  pub few : r.before + r.pages ≤ MAX_PAGES

-- ---- what runs are

-- the flags of page n, where it is mapped
abbrev pub flags_at : Memory → ℕ → Option ℕ
flags_at m n = option_map flags_of (m (n * page_bytes))

-- each page of the run is mapped with its flags
abbrev pub AreAlike : Memory → Run → Type 0
AreAlike m r = (k : ℕ) → k < r.pages → flags_at m (r.first + k) ≡ Some r.flags

-- a run of a memory, as long as can be: of its pages the last that isn't blank is the last filled one
pub record IsRun (m : Memory) (r : Run) : Type 0 where
  pub some : 1 ≤ r.pages
  pub alike : AreAlike m r
  pub below : (n : ℕ) → n + 1 ≡ r.first → flags_at m n ≢ Some r.flags
  pub above : flags_at m (r.first + r.pages) ≢ Some r.flags
  pub filled : r.filled ≤ r.pages
  pub last : (k : ℕ) → k + 1 ≡ r.filled → is_blank m (r.first + k) ≡ false
  pub blank : (k : ℕ) → r.filled ≤ k → k < r.pages → is_blank m (r.first + k) ≡ true

-- page n lies in one of the runs
abbrev pub IsInOne : ℕ → List Run → Type 0
IsInOne n [] = ⊥
IsInOne n (r ∷ rs) = ((r.first ≤ n) × (n < r.first + r.pages)) ⊎ IsInOne n rs

-- each run lies above those behind it, whose filled pages come before its own
abbrev pub Fall : List Run → Type 0
Fall [] = Unit {0}
Fall (r ∷ rs) =
    AllByRecursion (λ s. s.first + s.pages ≤ r.first) rs × (r.before ≡ sum_by (λ s. s.filled) rs) × Fall rs

-- the runs of a memory, the highest first
pub record AreRuns (m : Memory) (runs : List Run) : Type 0 where
  pub each : AllByRecursion (IsRun m) runs
  pub every : (n : ℕ) → is_mapped m n ≡ true → IsInOne n runs
  pub fall : Fall runs

-- they are found
abbrev pub RunsAreFound : Type 0
RunsAreFound = (m : Memory) → IsPaged m → AreRuns m (runs_below (2 ^ 20) m)
