use Rattle.std.proofs.Common.{arith}
use Rattle.guest_calls.specs.Guest.{state_of}
use Rattle.rates.proofs.Followed.{followed_next}
use Rattle.rates.proofs.runs.follow_all.Goals as goal

pub loop-frame-preserved : goal.loop-frame-preserved
loop-frame-preserved c =
    followed_next c.args.frames.now c.loop-frame.frame-index c.frame-item.result (state_of c.args.guest.now) (state_of c.loop-frame.guest)
    (state_of c.follow.new.guest)
    (omega arith) c.frame-item.is c.loop-frame.invariant c.in_ok-follow.ensures.follows
