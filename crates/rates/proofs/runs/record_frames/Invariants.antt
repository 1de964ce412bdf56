use Rattle.std.proofs.Common.{◌≡◌, length}
use Rattle.guest_calls.specs.Guest.{state_of}
use Rattle.rrv_model.specs.StateAt.{StateAtFrom, total}
use Rattle.rates.proofs.runs.record_frames.Given as goal

abbrev pub invariant-loop : goal.invariant-loop
invariant-loop l = StateAtFrom (state_of l.fn.guest) l.frames.items (total l.frames.items) (state_of l.guest)
    × (length l.frames.items ≡ l.counter)
