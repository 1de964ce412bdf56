use Rattle.std.proofs.Common.{◌≡◌, ◌-◌, length, drop}
use Rattle.rrv_model.specs.Elf.{loads}
use Rattle.guest_pages.specs.Space.{memory_of, snapshots_of}
use Rattle.guest_opening.proofs.opening.load_image.Given as goal
use Rattle.rrv_model.proofs.ImageParts.{image_of}

-- the loads so far are those behind a place
abbrev pub invariant-loop-load : goal.invariant-loop-load
invariant-loop-load l =
    (memory_of l.space ≡ image_of l.image (drop (length (loads l.image) - length l.yielded) (loads l.image)))
    × (snapshots_of l.space ≡ snapshots_of l.initial.space)
