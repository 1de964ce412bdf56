use Rattle.std.proofs.Common.{arith, subst, sym}
use Rattle.replayer.specs.Places.{PlaceValue, StandsAt}
use Rattle.replayer.specs.Verified.{VerifiedValue, RanFromLast}
use Rattle.replayer.proofs.Placed.{ran_onward}
use Rattle.replayer.proofs.place.Place.onward.Goals as goal

pub go_on-requires-clause-stands : goal.go_on-requires-clause-stands
go_on-requires-clause-stands c =
    let s = c.self.inside in
    subst (λ (v : VerifiedValue). StandsAt v.opening v.frames c.in_ok-position.position) (sym c.verified.view_is)
    (c.in_ok-position.ensures.stands s.verified.now.opening s.verified.now.frames c.self.invariant)

pub returns-clause-ran : goal.returns-clause-ran
returns-clause-ran c =
    let s = c.self.inside in
    let ran = c.in_ok-go_on.ensures.ran in
    let same = c.in_ok-position.ensures in
    let before = subst (λ (p : PlaceValue). RanFromLast p.verified p.at p.guest.ran) (sym c.self.view_is) c.requires.ran in
    subst (λ (p : PlaceValue). RanFromLast p.verified c.args.t c.go_on.new.position.guest.ran) c.self.view_is
    (ran_onward s.verified.now s.position.at c.args.t c.checkpoint_before.result s.position.guest.ran c.go_on.new.position.guest.ran before
    c.checkpoint_before.ensures
    (omega (arith, c.if-self-checkpoint_before.false)) (omega (arith, ran, same.at, same.ran)))
