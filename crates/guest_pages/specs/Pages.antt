-- Bytes in a list.
use Rattle.std.specs.Prelude.{◌≡◌, ℕ, zero, suc, ◌+◌, ◌-◌, List, [], ◌∷◌, length, slice_index, if◌then◌else◌}
use Rattle.rrv_model.specs.Memory.{is_within}

-- count bytes of a list, from a place on
abbrev pub run : ℕ → ℕ → List ℕ → List ℕ
run zero at bytes = []
run (suc count) at bytes = slice_index bytes at ∷ run count (at + 1) bytes

-- bytes written into a list from a place on, which have no other length
pub record IsWritten (bytes : List ℕ) (at : ℕ) (bs new : List ℕ) : Type 0 where
  pub len : length new ≡ length bytes
  pub each : (k : ℕ) →
      slice_index new k ≡ if is_within at (length bs) k then slice_index bs (k - at) else slice_index bytes k
