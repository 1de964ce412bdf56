use Rattle.std.proofs.Common.{◌+◌, true, refl, rules, sym}
use Rattle.std.specs.Char.{encode_utf8}
use Rattle.std.proofs.lemmas.Grind.{put_two}
use Rattle.guest_pages.specs.Space.{memory_of}
use Rattle.trace_text.specs.MemoryText.{character, each_below}
use Rattle.trace_text.proofs.Each.{each_more, each_none}
use Rattle.trace_text.proofs.memory_lines.write_characters.Goals as goal

pub loop-k-init : goal.loop-k-init
loop-k-init g c = rw (each_none (λ k. encode_utf8 (character (memory_of c.args.space.now (c.args.span.address + k))))) (search rules)

pub loop-k-preserved : goal.loop-k-preserved
loop-k-preserved g c plain =
    let so_far = c.loop-k.invariant plain in
    put_two g.W.Write.write_str_gives _ _ _
    (each_below (λ k. encode_utf8 (character (memory_of c.args.space.now (c.args.span.address + k)))) c.loop-k.k)
    (encode_utf8 (character (memory_of c.args.space.now (c.args.span.address + c.loop-k.k)))) _
    so_far (c.in_ok-write_character.ensures so_far.plain (refl {a = true}))
    (sym (each_more (λ k. encode_utf8 (character (memory_of c.args.space.now (c.args.span.address + k)))) c.loop-k.k))
