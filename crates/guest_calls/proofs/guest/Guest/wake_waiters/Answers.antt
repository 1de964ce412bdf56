use Rattle.std.proofs.Common.{length}
use Rattle.rrv_model.specs.CallRows.{waiters, wakes}
use Rattle.guest_calls.specs.Guest.{state_of}
use Rattle.guest_calls.proofs.CallParts.{makes_after}
use Rattle.guest_calls.proofs.guest.Guest.wake_waiters.Goals as goal

pub returns : goal.returns
returns c =
    let woken = waiters (state_of c.args.self.now) c.args.address c.args.count in
    record {
      makes = makes_after (length woken) _ (wakes c.args.address c.args.count) c.args.tid c.args.self.now _ _ _
          c.wake-woken.ensures.count c.wake-woken.ensures.wakes.state c.wake-woken.ensures.wakes.keeps c.answer.ensures.makes;
    }
