use Rattle.std.proofs.Common.{◌≡◌, length}
use Rattle.std.specs.Prelude.{flat_map, take}
use Rattle.std.specs.Io.KnownBytes.{Appends}
use Rattle.rrv_model.specs.Recovered.{of_guest}
use Rattle.trace_text.specs.Lines.{record_line}
use Rattle.recover.specs.Spots.{records_of, StandOn}
use Rattle.line_io.specs.Printed.{with_newline}
use Rattle.listings.proofs.guests.print_records.Given as goal

abbrev pub invariant-loop-index : goal.invariant-loop-index
invariant-loop-index g l =
    (l.index-end ≡ length (of_guest l.guest (records_of l.lists)))
    × (StandOn g.D.Disk.honest g.D.Disk.state l.fn.disk l.lists → Appends (g.W.Write.contents l.initial.out) (g.W.Write.contents l.out)
    (flat_map (λ r. with_newline (record_line r)) (take l.index (of_guest l.guest (records_of l.lists)))))
    × (StandOn g.D.Disk.honest g.D.Disk.state l.fn.disk l.lists → StandOn g.D.Disk.honest g.D.Disk.state l.disk l.lists)
