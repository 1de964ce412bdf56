use Rattle.std.proofs.Common.{◌+◌, ◌-◌, List, ℕ, true, refl, rules, sym}
use Rattle.std.proofs.lemmas.Grind.{put_two}
use Rattle.command_line.specs.declared.request.Watched.{Watched}
use Rattle.guest_pages.specs.Space.{memory_of}
use Rattle.rrv_model.specs.Memory.{Memory}
use Rattle.trace_text.specs.MemoryText.{cell_text, each_below}
use Rattle.trace_text.proofs.Each.{each_more, each_none}
use Rattle.changes.proofs.change_line.write_value.Goals as goal

abbrev text : Memory → Watched → ℕ → List ℕ
text m w k = cell_text (m (w.address + (w.count - 1 - k)))

pub loop-k-init : goal.loop-k-init
loop-k-init g c = rw (each_none (text (memory_of c.args.space.now) c.args.watched)) (search rules)

pub loop-k-preserved : goal.loop-k-preserved
loop-k-preserved g c plain =
    let so_far = c.loop-k.invariant plain in
    let text_of = text (memory_of c.args.space.now) c.args.watched in
    put_two g.W.Write.write_str_gives _ _ _ (each_below text_of c.loop-k.k) (text_of c.loop-k.k) _
    so_far (c.in_ok-write_cell.ensures so_far.plain (refl {a = true})) (sym (each_more text_of c.loop-k.k))
