use Rattle.std.specs.Fmt.{HasWritten, IsPlainFormatter}
use Rattle.guest_pages.specs.Space.{memory_of}
use Rattle.trace_text.specs.MemoryText.{column, each_below}
use Rattle.trace_text.proofs.memory_lines.write_columns.Given as goal

abbrev pub invariant-loop-k : goal.invariant-loop-k
invariant-loop-k g l =
    IsPlainFormatter l.initial.f →
    HasWritten g.W.Write.write_str_gives l.initial.f (each_below (column (memory_of l.space) l.span.address l.span.count) l.k) l.f
