use Rattle.std.proofs.Common.{arith, ◌≤◌, length, subst, Result}
use Rattle.std.proofs.lemmas.Result.{err_from_is_err_and}
use Rattle.faults.specs.declared.replay.VerifyFault.{VerifyFault}
use Rattle.replayer.specs.Following.{FollowingValue, standing_of}
use Rattle.replayer.specs.Standings.{Standing}
use Rattle.spans.specs.Spans.{FollowsAlong, LeadAlong, StopsAlong}
use Rattle.spans.proofs.Along.{first_stops, other_follows, wants_memory}
use Rattle.spans.proofs.following.+spans.Goals as goal

pub follow_claimed-returns-in-Ok : goal.follow_claimed-returns-in-Ok
follow_claimed-returns-in-Ok g t c = λ x y fits lead.
    subst (λ (s : Standing). FollowsAlong c.follow_in_spans.result c.args.records.now s) (c.in-Ok.ensures.claims x y fits lead)
    c.follow_in_spans.ensures

pub follow_claimed-returns-in-Err-Memory : goal.follow_claimed-returns-in-Err-Memory
follow_claimed-returns-in-Err-Memory g t c = λ x y fits lead. wants_memory c.args.records.now y c.requires.some

pub follow_in_spans-split_at-requires : goal.follow_in_spans-split_at-requires
follow_in_spans-split_at-requires g t c = omega (arith, c.in-Some.ensures.within)

pub follow_in_spans-returns-in_err-claim : goal.follow_in_spans-returns-in_err-claim
follow_in_spans-returns-in_err-claim g t c =
    let p = err_from_is_err_and c.from_residual.result c.from_residual.ensures.1 in
    let some : 1 ≤ length c.args.records.now = omega (arith, c.in-Some.ensures.within) in
    rw (p.1, p.2, c.in_err-claim.ensures.memory) (wants_memory c.args.records.now (standing_of c.args.following) some)

pub follow_in_spans-returns-in_err-done : goal.follow_in_spans-returns-in_err-done
follow_in_spans-returns-in_err-done g t c =
    let e = c.in_err-done.field-0.0 in
    let front = c.split_at.result.0.now in
    let x = standing_of c.args.following in
    let p = err_from_is_err_and c.from_residual-in_err-done.result c.from_residual-in_err-done.ensures.1 in
    let stops : StopsAlong e front x =
    subst (λ (r : Result FollowingValue VerifyFault). FollowsAlong r front x) c.in_err-done.was c.join-done.ensures.first in
    rw (p.1, p.2) (first_stops e c.args.records.now front c.split_at.result.1.now x c.split_at.ensures.by_index.0 stops)

pub follow_in_spans-returns : goal.follow_in_spans-returns
follow_in_spans-returns g t c =
    let front = c.split_at.result.0.now in
    let x = standing_of c.args.following in
    let y = standing_of c.in_ok-done.field-0 in
    let lead : LeadAlong front x y =
    subst (λ (r : Result FollowingValue VerifyFault). FollowsAlong r front x) c.in_ok-done.was c.join-done.ensures.first in
    other_follows c.args.records.now front c.split_at.result.1.now x y c.join-done.result.1 c.split_at.ensures.by_index.0 lead
    (c.join-done.ensures.second x y c.in_ok-claim.ensures.fits lead)
