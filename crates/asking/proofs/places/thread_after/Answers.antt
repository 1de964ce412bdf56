use Rattle.std.proofs.Common.{Some, ap, arith, sym, ◌∙◌, ◌<◌}
use Rattle.std.proofs.lemmas.Option.{slice_get-get_or}
use Rattle.asking.proofs.Threads.{runs_next}
use Rattle.asking.proofs.places.thread_after.Goals as goal

pub returns-then-left-count-clause-next : goal.returns-then-left-count-clause-next
returns-then-left-count-clause-next c =
    let frames = c.args.frames.now in
    let i = c.loop-frame.frame-index in
    let f = c.frame-item.result in
    let low : c.loop-frame.left < f.count = omega (arith, c.if-left-count.true, c.from-count.ensures) in
    runs_next frames i c.args.t c.loop-frame.left f (slice_get-get_or frames i f c.loop-frame-test.true ∙ ap Some (sym c.frame-item.is))
    c.loop-frame.invariant low
