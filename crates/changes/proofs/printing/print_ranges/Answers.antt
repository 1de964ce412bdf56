use Rattle.std.proofs.Common.{List, ℕ, ap, get_or, subst, ◌∙◌}
use Rattle.std.specs.Io.KnownBytes.{Appends}
use Rattle.std.proofs.lemmas.Option.{slice_get-get_or}
use Rattle.command_line.specs.declared.request.MemoryRange.{MemoryRange}
use Rattle.guest_pages.specs.Space.{SpaceValue, memory_of}
use Rattle.trace_text.specs.MemoryText.{memory_lines}
use Rattle.end_text.proofs.Printed.{printed_on}
use Rattle.changes.proofs.printing.print_ranges.Goals as goal

pub loop-range-preserved : goal.loop-range-preserved
loop-range-preserved g c =
    let m = memory_of c.args.guest.now.space in
    let none : MemoryRange = record { address = 0; length = 0 } in
    let i = c.loop-range.range-index in
    let r = get_or c.args.ranges.now i none in
    let lines = c.new-lines.result in
    let made = c.new-lines.ensures in
    let same = ap (λ (x : SpaceValue). memory_lines (memory_of x) lines.address lines.length) (made.space ∙ c.space.ensures)
    ∙ ap (λ (n : ℕ). memory_lines m n lines.length) made.address
    ∙ ap (λ (n : ℕ). memory_lines m r.address n) made.length in
    printed_on (λ (x : MemoryRange). memory_lines m x.address x.length) c.args.ranges.now i r _ _ _
    (slice_get-get_or c.args.ranges.now i none c.loop-range-test.true) c.loop-range.invariant
    (subst (λ (text : List ℕ). Appends (g.W.Write.contents c.loop-range.out) (g.W.Write.contents c.print_text.new.out) text) same
    c.in_ok-print_text.ensures.printed)
