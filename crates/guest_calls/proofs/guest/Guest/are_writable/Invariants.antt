use Rattle.std.proofs.Common.{◌≡◌, drop}
use Rattle.rrv_model.specs.CallRows.{all_writable}
use Rattle.guest_calls.specs.Guest.{state_of}
use Rattle.guest_calls.proofs.guest.Guest.are_writable.Given as goal

abbrev pub invariant-loop-place : goal.invariant-loop-place
invariant-loop-place l =
    all_writable (state_of l.self).memory (drop l.place-index l.places) ≡ all_writable (state_of l.self).memory l.places
