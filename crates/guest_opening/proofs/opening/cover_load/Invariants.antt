use Rattle.std.proofs.Common.{◌≡◌, ◌/◌}
use Rattle.guest_pages.specs.Space.{memory_of, snapshots_of}
use Rattle.guest_opening.proofs.ImageParts.{covered_pages}
use Rattle.guest_opening.proofs.opening.cover_load.Given as goal

abbrev pub invariant-loop-page : goal.invariant-loop-page
invariant-loop-page l =
    (memory_of l.space ≡ covered_pages (l.load.address / 4096) l.page l.permissions (memory_of l.initial.space))
    × (snapshots_of l.space ≡ snapshots_of l.initial.space)
