use Rattle.std.specs.Prelude.{flat_map, take}
use Rattle.std.specs.Io.KnownBytes.{Appends}
use Rattle.rrv_model.specs.Recovered.{of_guest}
use Rattle.recover.specs.Spots.{records_of, StandOn}
use Rattle.listings.specs.Printed.{guest_line}
use Rattle.line_io.specs.Printed.{with_newline}
use Rattle.listings.proofs.guests.print_guests.Given as goal

abbrev pub invariant-loop-guest : goal.invariant-loop-guest
invariant-loop-guest g l =
    (StandOn g.D.Disk.honest g.D.Disk.state l.fn.disk l.lists → Appends (g.W.Write.contents l.initial.out) (g.W.Write.contents l.out)
    (flat_map (λ guest. with_newline (guest_line guest (of_guest guest (records_of l.lists)))) (take l.guest-index l.guest-items)))
    × (StandOn g.D.Disk.honest g.D.Disk.state l.fn.disk l.lists → StandOn g.D.Disk.honest g.D.Disk.state l.disk l.lists)
