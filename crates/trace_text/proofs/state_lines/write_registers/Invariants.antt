use Rattle.std.specs.Fmt.{HasWritten, IsPlainFormatter}
use Rattle.trace_text.specs.States.{registers_lines}
use Rattle.trace_text.proofs.state_lines.write_registers.Given as goal

abbrev pub invariant-loop-line : goal.invariant-loop-line
invariant-loop-line g l =
    IsPlainFormatter l.initial.f → HasWritten g.W.Write.write_str_gives l.initial.f (registers_lines l.line l.regs) l.f
