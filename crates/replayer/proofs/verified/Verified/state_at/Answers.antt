use Rattle.std.proofs.Common.{◌≤◌, subst, sym}
use Rattle.rrv_model.specs.StateAt.{StateAt, total}
use Rattle.guest_calls.specs.Guest.{GuestValue, state_of}
use Rattle.replayer.specs.Kept.{verified_of}
use Rattle.replayer.specs.Verified.{RanFromLast, VerifiedValue}
use Rattle.replayer.proofs.Kept.{kept_by}
use Rattle.replayer.proofs.Last.{ran_from_last}
use Rattle.replayer.proofs.verified.Verified.state_at.Goals as goal

pub position_at-requires-clause-kept : goal.position_at-requires-clause-kept
position_at-requires-clause-kept c = kept_by c.self.inside.track c.self.inside.len c.self.invariant

pub position_at-requires-clause-within : goal.position_at-requires-clause-within
position_at-requires-clause-within c = subst (λ (v : VerifiedValue). c.args.t ≤ total v.frames) (sym c.self.view_is) c.requires

pub returns-clause-state : goal.returns-clause-state
returns-clause-state c =
    let track = c.self.inside.track in
    let position = c.in_ok-position.position in
    let there = subst (λ t. StateAt track.opening track.frames t (state_of position.guest)) c.in_ok-position.ensures.at
    c.in_ok-position.ensures.stands.state in
    subst (λ (v : VerifiedValue). StateAt v.opening v.frames c.args.t (state_of c.into_guest.result)) c.self.view_is
    (subst (λ (g : GuestValue). StateAt track.opening track.frames c.args.t (state_of g)) (sym c.into_guest.ensures) there)

pub returns-clause-ran : goal.returns-clause-ran
returns-clause-ran c =
    let s = c.self.inside in
    subst (λ (v : VerifiedValue). RanFromLast v c.args.t c.into_guest.result.ran) c.self.view_is
    (subst (λ (g : GuestValue). RanFromLast (verified_of s.track s.len) c.args.t g.ran) (sym c.into_guest.ensures)
    (ran_from_last s.track s.len c.args.t c.in_ok-position.position.guest.ran c.self.invariant c.in_ok-position.ensures.ran))
