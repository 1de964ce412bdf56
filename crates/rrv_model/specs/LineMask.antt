-- Line masks: which lines of a page differ from those of another, and which are replaced. A page of 4,096 bytes has
-- 64 lines; line i is its bytes 64 * i to 64 * i + 63. A page's bytes are a function from places.
use Rattle.std.specs.Prelude.{◌≡◌, ◌≢◌, ◌↔◌, ℕ, ◌+◌, ◌*◌, ◌/◌, ◌%◌, ◌^◌, ◌<◌, ◌==◌, if◌then◌else◌, List, Option, Some, None, count_ones, slice_get, slice_index}
use Rattle.std.specs.Int.{bit_at}
use Rattle.rrv_model.specs.Memory.{page_bytes}
use Rattle.rrv_model.specs.declared.record.Line.{Line}

-- ---- which lines differ

-- some byte of line i differs
abbrev pub DifferInLine : (ℕ → ℕ) → (ℕ → ℕ) → ℕ → Type 0
DifferInLine a b i = (k : ℕ) × (k < 64) × (a (64 * i + k) ≢ b (64 * i + k))

-- bit i is set exactly where line i differs
pub record IsLineMask (a b : ℕ → ℕ) (mask : ℕ) : Type 0 where
  pub bits : mask < 2 ^ 64
  pub set : (i : ℕ) → i < 64 → (bit_at mask i ≡ 1) ↔ DifferInLine a b i

-- all bytes are zero
abbrev pub IsZeroPage : (ℕ → ℕ) → Type 0
IsZeroPage a = (k : ℕ) → k < page_bytes → a k ≡ 0

-- ---- lines that are replaced

-- byte k of line i, where the lines stand for the mask's set bits from the lowest
abbrev pub line_byte : ℕ → List Line → ℕ → ℕ → ℕ
line_byte mask lines i k = byte_of (slice_get lines (count_ones (mask % 2 ^ i))) where
  byte_of : Option Line → ℕ
  byte_of None = 0
  byte_of (Some l) = slice_index l.bytes k

-- byte k of a page: of its line where the mask names that, or this one
abbrev pub merged_byte : ℕ → List Line → ℕ → ℕ → ℕ
merged_byte mask lines old k =
    if bit_at mask (k / 64) == 1 then line_byte mask lines (k / 64) (k % 64) else old

-- the lines of the mask's set bits are replaced, in order, and no other byte
abbrev pub IsMerged : (ℕ → ℕ) → ℕ → List Line → (ℕ → ℕ) → Type 0
IsMerged old mask lines new = (k : ℕ) → k < page_bytes → new k ≡ merged_byte mask lines (old k) k
