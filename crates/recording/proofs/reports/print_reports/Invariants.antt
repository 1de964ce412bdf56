use Rattle.std.proofs.Common.{◌≡◌, length}
use Rattle.std.specs.Prelude.{take}
use Rattle.std.specs.Io.KnownBytes.{Appends}
use Rattle.recording.specs.Names.{name_by}
use Rattle.recording.specs.Reports.{guests_told}
use Rattle.recording.proofs.reports.print_reports.Given as goal

abbrev pub invariant-loop-place : goal.invariant-loop-place
invariant-loop-place g l =
    (l.place-end ≡ length l.reports)
    × Appends (g.W.Write.contents l.initial.out) (g.W.Write.contents l.out)
    (guests_told (name_by l.names) 0 (take l.place l.reports) (take l.place l.guests) (take l.place l.lasts))
