use Rattle.std.proofs.Common.{◌≡◌, ◌∙◌, ℕ, List, [], ◌∷◌, ◌++◌, true, ap, append-nil, map-id, refl, subst, sym}
use Rattle.std.proofs.lemmas.Grind.{flat_map-append, put_two}
use Rattle.std.proofs.lemmas.Iterator.{YieldsList-from_chars, YieldsList-from_take}
use Rattle.std.proofs.lemmas.Iterator.Consumers.{YieldsList-at, YieldsList-end}
use Rattle.std.specs.Prelude.{flat_map}
use Rattle.std.specs.Fmt.{HasWritten}
use Rattle.escapes.specs.Escaped.{char_text}
use Rattle.escapes.proofs.escaped.write_front.Goals as goal

pub loop-c-preserved : goal.loop-c-preserved
loop-c-preserved g c plain =
    let so_far = c.loop-c.invariant plain in
    let before = flat_map char_text c.loop-c.yielded in
    put_two g.W.Write.write_str_gives _ _ _ before (char_text c.in-Some.c) _ so_far
    (c.in_ok-write_char.ensures so_far.plain (refl {a = true}))
    (sym (flat_map-append char_text c.loop-c.yielded (c.in-Some.c ∷ []) ∙ ap (λ l. before ++ l) (append-nil (char_text c.in-Some.c))))

pub returns : goal.returns
returns g c plain ok =
    let spelt = YieldsList-from_chars {s = c.chars.result} c.args.text.now c.utf8.text cc in
    let shown = YieldsList-from_take {s = c.take-c-items.result} c.args.most (YieldsList-at c.take-c-items.ensures.source spelt)
    c.take-c-items.ensures.count in
    let loop = YieldsList-at c.into_iter-c-iterator.ensures.into_iter_gives shown in
    let end = YieldsList-end loop c.loop-c.yielded _ c.loop-c.yielded_by _ _ c.in-None.is c.next.ensures.steps in
    subst (λ (text : List ℕ). HasWritten g.W.Write.write_str_gives c.args.f.now text c.loop-c.f)
    (ap (flat_map char_text) (sym (map-id c.loop-c.yielded) ∙ end.0)) (c.loop-c.invariant plain)
