use Rattle.std.proofs.Common.{◌+◌, ◌-◌, ◌*◌, true, refl, rules, sym}
use Rattle.std.specs.Prelude.{min}
use Rattle.std.specs.Char.{encode_utf8}
use Rattle.std.proofs.lemmas.Grind.{put_two}
use Rattle.guest_pages.specs.Space.{memory_of}
use Rattle.trace_text.specs.MemoryText.{character, column, each_below, line_from}
use Rattle.trace_text.proofs.Each.{each_more, each_none}
use Rattle.trace_text.proofs.memory_lines.write_lines.Goals as goal

pub loop-line-init : goal.loop-line-init
loop-line-init g c = rw (each_none (line_from (memory_of c.args.space.now) c.args.address c.args.length)) (search rules)

pub loop-line-preserved : goal.loop-line-preserved
loop-line-preserved g c plain =
    let so_far = c.loop-line.invariant plain in
    put_two g.W.Write.write_str_gives _ _ _
    (each_below (line_from (memory_of c.args.space.now) c.args.address c.args.length) c.loop-line.line)
    (line_from (memory_of c.args.space.now) c.args.address c.args.length c.loop-line.line) _
    so_far (c.in_ok-write_line_from.ensures so_far.plain (refl {a = true}))
    (sym (each_more (line_from (memory_of c.args.space.now) c.args.address c.args.length) c.loop-line.line))
