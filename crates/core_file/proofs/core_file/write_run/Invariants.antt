use Rattle.std.proofs.Common.{◌*◌}
use Rattle.std.specs.Io.KnownBytes.{Appends}
use Rattle.rrv_model.specs.Memory.{bytes_at, page_bytes}
use Rattle.guest_pages.specs.Space.{memory_of}
use Rattle.core_file.proofs.core_file.write_run.Given as goal

abbrev pub invariant-loop-index : goal.invariant-loop-index
invariant-loop-index g l =
    Appends (g.W.Write.contents l.fn.out) (g.W.Write.contents l.out)
    (bytes_at (memory_of l.space) (l.run.first * page_bytes) (l.index * page_bytes))
