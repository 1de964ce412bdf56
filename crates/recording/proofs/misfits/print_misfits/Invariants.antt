use Rattle.std.specs.Prelude.{take}
use Rattle.std.specs.Io.KnownBytes.{Appends}
use Rattle.recording.specs.Misfits.{misfit_lines}
use Rattle.recording.specs.Names.{name_by}
use Rattle.recording.proofs.misfits.print_misfits.Given as goal

abbrev pub invariant-loop-misfit : goal.invariant-loop-misfit
invariant-loop-misfit g l =
    Appends (g.W.Write.contents l.initial.out) (g.W.Write.contents l.out)
    (misfit_lines (name_by l.names) (take l.misfit-index l.misfits))
