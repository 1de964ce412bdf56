use Rattle.std.proofs.Common.{◌+◌}
use Rattle.std.specs.Char.{encode_utf8}
use Rattle.std.specs.Fmt.{HasWritten, IsPlainFormatter}
use Rattle.guest_pages.specs.Space.{memory_of}
use Rattle.trace_text.specs.MemoryText.{character, each_below}
use Rattle.trace_text.proofs.memory_lines.write_characters.Given as goal

abbrev pub invariant-loop-k : goal.invariant-loop-k
invariant-loop-k g l =
    IsPlainFormatter l.initial.f →
    HasWritten g.W.Write.write_str_gives l.initial.f
    (each_below (λ k. encode_utf8 (character (memory_of l.space (l.span.address + k)))) l.k)
    l.f
