-- The buffers of a writev.
use Rattle.std.specs.Prelude.{ℕ, List, flat_map}
use Rattle.rrv_model.specs.Memory.{Memory, bytes_at}

-- the bytes of buffers, one behind another
abbrev pub joined : Memory → List (ℕ × ℕ) → List ℕ
joined m buffers = flat_map (λ b. bytes_at m b.0 b.1) buffers
