-- The snapshots that a guest's space keeps.
use Rattle.std.specs.Prelude.{ℕ, Option}
use Rattle.rrv_model.specs.Memory.{Memory}
use Rattle.guest_pages.specs.Space.{snapshots_of}
use Rattle.guest_calls.specs.Guest.{GuestValue}

-- the memory that is kept under a number, if any
abbrev pub guest_snapshots : GuestValue → ℕ → Option Memory
guest_snapshots g = snapshots_of g.space
