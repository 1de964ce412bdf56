-- Lines of 64 bytes.
use Rattle.std.specs.Prelude.{◌≡◌, ◌≢◌, ℕ, ◌<◌, List, slice_index}

-- some byte of two lines differs
abbrev pub Differ : List ℕ → List ℕ → Type 0
Differ a b = (k : ℕ) × (k < 64) × (slice_index a k ≢ slice_index b k)

-- all bytes of a line are zero
abbrev pub AreZero : List ℕ → Type 0
AreZero line = (k : ℕ) → k < 64 → slice_index line k ≡ 0
