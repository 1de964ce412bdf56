use Rattle.std.proofs.Common.{subst, sym, ◌∙◌}
use Rattle.std.proofs.lemmas.Result.{err_from_is_err_and}
use Rattle.recorder.specs.declared.fault.RecorderFault.TheVariants as faults
use Rattle.recorder.specs.RecorderCalls.{RefusesRelease}
use Rattle.recorder.proofs.Made.{keeps_both, keeps_released}
use Rattle.session.proofs.Driven.{call_tells_released, call_tells_sent, drives_both, drives_more, drives_still, halted_is}
use Rattle.session.proofs.rounds.send_and_release.Goals as goal

pub returns-in_err-release-clause-drives : goal.returns-in_err-release-clause-drives
returns-in_err-release-clause-drives g c =
    let r = c.release.ensures in
    drives_both g.S.Sink _ _ _ _ _ _ (drives_still g.S.Sink _ _ _ c.send-sent.ensures.goes)
    (drives_more g.S.Sink _ _ _ _ _ (keeps_released _ _ r.keeps) r.put)

pub returns-clause-drives : goal.returns-clause-drives
returns-clause-drives g c =
    let r = c.release.ensures in
    drives_both g.S.Sink _ _ _ _ _ _ (drives_still g.S.Sink _ _ _ c.send-sent.ensures.goes)
    (drives_more g.S.Sink _ _ _ _ _ (keeps_released _ _ r.keeps) r.put)

pub returns-in_err-release-clause-halted : goal.returns-in_err-release-clause-halted
returns-in_err-release-clause-halted g c e =
    let p = err_from_is_err_and c.from_residual.result c.from_residual.ensures.1 in
    absurd (subst (λ f. RefusesRelease f (g.S.Sink.faults c.args.sink.now) (g.S.Sink.faults c.release.new.sink)) {y = faults.Halted}
    (sym p.2 ∙ halted_is p.0 _ p.1 e) c.in_err-release.ensures.refused)

pub returns-in_err-release-clause-keeps : goal.returns-in_err-release-clause-keeps
returns-in_err-release-clause-keeps g c =
    let r = c.release.ensures in
    keeps_both _ _ _ c.send-sent.ensures.keeps (keeps_released _ _ r.keeps)

pub returns-clause-keeps : goal.returns-clause-keeps
returns-clause-keeps g c =
    let r = c.release.ensures in
    keeps_both _ _ _ c.send-sent.ensures.keeps (keeps_released _ _ r.keeps)

pub returns-in_err-release-clause-sink : goal.returns-in_err-release-clause-sink
returns-in_err-release-clause-sink g c =
    let p = err_from_is_err_and c.from_residual.result c.from_residual.ensures.1 in
    rw (p.1, p.2) (call_tells_released _ _ _ c.in_err-release.ensures.refused)

pub returns-clause-sink : goal.returns-clause-sink
returns-clause-sink g c = call_tells_sent _ _ _ _ c.send-sent.ensures.halted c.in_ok-release.ensures.counted
