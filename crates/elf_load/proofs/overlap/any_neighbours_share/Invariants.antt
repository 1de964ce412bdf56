use Rattle.std.proofs.Common.{◌≡◌, ℕ, ◌+◌, ◌<◌, get_or, false}
use Rattle.rrv_model.specs.Elf.{Header, share}
use Rattle.elf_load.proofs.overlap.any_neighbours_share.Given as goal

-- no two neighbours so far share a byte
abbrev pub invariant-loop-index : goal.invariant-loop-index
invariant-loop-index l = (k : ℕ) (d : Header) → k + 1 < l.index → share (get_or l.ordered k d) (get_or l.ordered (k + 1) d) ≡ false
