use Rattle.std.proofs.Common.{◌≡◌, take, flat_map}
use Rattle.std.specs.Int.{w32, to_le_bytes}
use Rattle.rrv_model.specs.Memory.{stored}
use Rattle.guest_pages.specs.Space.{memory_of, snapshots_of}
use Rattle.guest_opening.proofs.opening.fill_words.Given as goal

abbrev pub invariant-loop-place : goal.invariant-loop-place
invariant-loop-place l =
    (memory_of l.space ≡ stored l.address (flat_map (to_le_bytes w32) (take l.place l.words)) (memory_of l.initial.space))
    × (snapshots_of l.space ≡ snapshots_of l.initial.space)
