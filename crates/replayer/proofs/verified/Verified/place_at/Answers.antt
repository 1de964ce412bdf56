use Rattle.std.proofs.Common.{◌≤◌, subst, sym}
use Rattle.rrv_model.specs.StateAt.{total}
use Rattle.replayer.specs.Places.{StandsAt}
use Rattle.replayer.specs.Verified.{RanFromLast, VerifiedValue}
use Rattle.replayer.proofs.Kept.{kept_by}
use Rattle.replayer.proofs.Last.{ran_from_last}
use Rattle.replayer.proofs.verified.Verified.place_at.Goals as goal

pub position_at-requires-clause-kept : goal.position_at-requires-clause-kept
position_at-requires-clause-kept c = kept_by c.self.inside.track c.self.inside.len c.self.invariant

pub position_at-requires-clause-within : goal.position_at-requires-clause-within
position_at-requires-clause-within c = subst (λ (v : VerifiedValue). c.args.t ≤ total v.frames) (sym c.self.view_is) c.requires

pub invariant_of-result : goal.invariant_of-result
invariant_of-result c =
    subst (λ (v : VerifiedValue). StandsAt v.opening v.frames c.in_ok-position.position) c.self.view_is c.in_ok-position.ensures.stands

pub returns-clause-ran : goal.returns-clause-ran
returns-clause-ran c =
    let s = c.self.inside in
    subst (λ (v : VerifiedValue). RanFromLast v c.args.t c.in_ok-position.position.guest.ran) c.self.view_is
    (ran_from_last s.track s.len c.args.t c.in_ok-position.position.guest.ran c.self.invariant c.in_ok-position.ensures.ran)
