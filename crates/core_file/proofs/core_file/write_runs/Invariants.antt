use Rattle.std.proofs.Common.{take}
use Rattle.std.specs.Prelude.{flat_map}
use Rattle.std.specs.Io.KnownBytes.{Appends}
use Rattle.guest_pages.specs.Space.{memory_of}
use Rattle.core_file.specs.Core.{run_bytes}
use Rattle.core_file.proofs.core_file.write_runs.Given as goal

abbrev pub invariant-loop-run : goal.invariant-loop-run
invariant-loop-run g l =
    Appends (g.W.Write.contents l.fn.out) (g.W.Write.contents l.out) (flat_map (run_bytes (memory_of l.space)) (take l.run-index l.runs))
