use Rattle.std.proofs.Common.{◌≡◌, ◌-◌, ◌∷◌, ◌∙◌, List, ap, drop, length, sym, take}
use Rattle.replayer.specs.declared.recording.Mark.{Mark}
use Rattle.replayer.specs.Kept.{last_place}
use Rattle.replayer.proofs.Onward.{none_left, split_first}
use Rattle.replayer.proofs.Placed.{last_stop}
use Rattle.replayer.proofs.recording.Track.checkpoint_before.Goals as goal

pub returns-then-mark-t : goal.returns-then-mark-t
returns-then-mark-t c =
    let m = c.mark-item.result in
    let all = c.loop-left.left.now in
    let rest = take (length all - 1) (drop 1 all) in
    let next : all ≡ m ∷ rest = split_first all m c.in-len1-up.len_at_least c.mark-item.is in
    sym (last_stop c.loop-left.last m rest c.args.t c.if-mark-t.true)
    ∙ ap (λ (ms : List Mark). last_place c.loop-left.last ms c.args.t) (sym next) ∙ c.loop-left.invariant

pub returns : goal.returns
returns c = ap (λ (ms : List Mark). last_place c.loop-left.last ms c.args.t) (sym (none_left c.loop-left.left.now c.in_default.len_below))
    ∙ c.loop-left.invariant
