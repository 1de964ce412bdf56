use Rattle.std.specs.Prelude.{take}
use Rattle.std.specs.Io.KnownBytes.{Appends}
use Rattle.choices.specs.Recorded.{choices_text}
use Rattle.answers.proofs.choosing.print_choices.Given as goal

abbrev pub invariant-loop-frame : goal.invariant-loop-frame
invariant-loop-frame g l =
    Appends (g.W.Write.contents l.initial.out) (g.W.Write.contents l.out) (choices_text (take l.frame-index l.frames))
