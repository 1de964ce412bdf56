use Rattle.std.specs.Prelude.{take}
use Rattle.std.specs.Io.KnownBytes.{Appends}
use Rattle.guest_calls.specs.Guest.{state_of}
use Rattle.changes.specs.Printed.{ranges_lines}
use Rattle.changes.proofs.printing.print_ranges.Given as goal

abbrev pub invariant-loop-range : goal.invariant-loop-range
invariant-loop-range g l =
    Appends (g.W.Write.contents l.initial.out) (g.W.Write.contents l.out)
    (ranges_lines (state_of l.guest).memory (take l.range-index l.ranges))
