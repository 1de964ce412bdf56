use Rattle.std.proofs.Common.{◌≤◌, subst}
use Rattle.rrv_model.specs.StateAt.{total}
use Rattle.replayer.specs.Places.{PlaceValue}
use Rattle.replayer.proofs.Onward.{stands_within}
use Rattle.replayer.proofs.place.Place.at.Goals as goal

pub returns-clause-within : goal.returns-clause-within
returns-clause-within c =
    let s = c.self.inside in
    subst (λ (p : PlaceValue). p.at ≤ total p.verified.frames) c.self.view_is
    (stands_within s.verified.now.opening s.verified.now.frames s.position c.self.invariant)
