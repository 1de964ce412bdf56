use Rattle.std.proofs.Common.{◌+◌, ◌-◌}
use Rattle.std.specs.Fmt.{HasWritten, IsPlainFormatter}
use Rattle.guest_pages.specs.Space.{memory_of}
use Rattle.trace_text.specs.MemoryText.{cell_text, each_below}
use Rattle.changes.proofs.change_line.write_value.Given as goal

abbrev pub invariant-loop-k : goal.invariant-loop-k
invariant-loop-k g l =
    IsPlainFormatter l.initial.f →
    HasWritten g.W.Write.write_str_gives l.initial.f
    (each_below (λ k. cell_text (memory_of l.space (l.watched.address + (l.watched.count - 1 - k)))) l.k)
    l.f
