use Rattle.std.proofs.Common.{subst}
use Rattle.guest_calls.specs.Guest.{GuestValue, state_of}
use Rattle.rrv_model.specs.StateAt.{StateAt}
use Rattle.asking.proofs.printing.print_found.Goals as goal

pub returns-then-not-is_found-clause-state : goal.returns-then-not-is_found-clause-state
returns-then-not-is_found-clause-state g c =
    let at = c.args.cursor.now in
    subst (λ (x : GuestValue). StateAt at.verified.opening at.verified.frames at.place (state_of x)) c.guest-guest.ensures.guest
    c.guest-guest.ensures.state

pub returns-clause-state : goal.returns-clause-state
returns-clause-state g c =
    let at = c.args.cursor.now in
    subst (λ (x : GuestValue). StateAt at.verified.opening at.verified.frames at.place (state_of x)) c.guest-guest.ensures.guest
    c.guest-guest.ensures.state
