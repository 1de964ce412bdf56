use Rattle.std.proofs.Common.{arith}
use Rattle.std.proofs.lemmas.Result.{err_from_is_err_and}
use Rattle.replayer.specs.Following.{standing_of}
use Rattle.spans.proofs.Along.{along_all, along_at, stops_at}
use Rattle.spans.proofs.following.follow_in_turn.Goals as goal

pub loop-entry-preserved : goal.loop-entry-preserved
loop-entry-preserved c =
    along_at c.args.records.now c.loop-entry.entry-index c.entry-item.result (standing_of c.args.following)
    (standing_of c.loop-entry.following)
    (standing_of c.follow.new.self) (omega arith) c.entry-item.is c.loop-entry.invariant c.in_ok-follow.ensures.continues

pub returns-in_err-follow : goal.returns-in_err-follow
returns-in_err-follow c =
    let p = err_from_is_err_and c.from_residual.result c.from_residual.ensures.1 in
    rw (p.1, p.2)
    (stops_at c.in_err-follow.field-0.0 c.args.records.now c.loop-entry.entry-index c.entry-item.result (standing_of c.args.following)
    (standing_of c.loop-entry.following)
    (omega arith) c.entry-item.is c.loop-entry.invariant c.in_err-follow.ensures.fails)

pub returns : goal.returns
returns c =
    along_all c.args.records.now c.loop-entry.entry-index (standing_of c.args.following) (standing_of c.loop-entry.following) (omega arith)
    c.loop-entry.invariant
