use Rattle.std.specs.Bool.{⊤}
use Rattle.command_line.proofs.lines.advised.Given as goal

abbrev pub invariant-loop-word : goal.invariant-loop-word
invariant-loop-word g l = ⊤
