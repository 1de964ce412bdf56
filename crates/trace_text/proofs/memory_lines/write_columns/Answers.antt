use Rattle.std.proofs.Common.{true, refl, rules, sym}
use Rattle.std.proofs.lemmas.Grind.{put_two}
use Rattle.guest_pages.specs.Space.{memory_of}
use Rattle.trace_text.specs.MemoryText.{column, each_below}
use Rattle.trace_text.proofs.Each.{each_more, each_none}
use Rattle.trace_text.proofs.memory_lines.write_columns.Goals as goal

pub loop-k-init : goal.loop-k-init
loop-k-init g c = rw (each_none (column (memory_of c.args.space.now) c.args.span.address c.args.span.count)) (search rules)

pub loop-k-preserved : goal.loop-k-preserved
loop-k-preserved g c plain =
    let so_far = c.loop-k.invariant plain in
    put_two g.W.Write.write_str_gives _ _ _
    (each_below (column (memory_of c.args.space.now) c.args.span.address c.args.span.count) c.loop-k.k)
    (column (memory_of c.args.space.now) c.args.span.address c.args.span.count c.loop-k.k) _
    so_far (c.in_ok-write_column.ensures so_far.plain (refl {a = true}))
    (sym (each_more (column (memory_of c.args.space.now) c.args.span.address c.args.span.count) c.loop-k.k))
