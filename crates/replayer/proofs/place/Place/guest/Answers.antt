use Rattle.std.proofs.Common.{subst}
use Rattle.rrv_model.specs.StateAt.{StateAt}
use Rattle.guest_calls.specs.Guest.{state_of}
use Rattle.replayer.specs.Places.{PlaceValue}
use Rattle.replayer.proofs.place.Place.guest.Goals as goal

pub returns-clause-state : goal.returns-clause-state
returns-clause-state c =
    subst (λ (p : PlaceValue). StateAt p.verified.opening p.verified.frames p.at (state_of c.self.inside.position.guest)) c.self.view_is
    c.self.invariant.state
