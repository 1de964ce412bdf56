use Rattle.std.proofs.Common.{ap, subst, sym, ◌∙◌, inl, Option}
use Rattle.std.proofs.lemmas.Result.{err_from_is_err_and}
use Rattle.rrv_model.specs.declared.record.Choice.{Choice}
use Rattle.guest_calls.specs.Guest.{GuestValue, state_of}
use Rattle.serial_sched.specs.Chosen.{Picks}
use Rattle.serial_sched.specs.Slices.{IsAsleep}
use Rattle.recorder.specs.declared.fault.RecorderFault.{RecorderFault}
use Rattle.recorder.specs.declared.fault.RecorderFault.TheVariants as recorder_faults
use Rattle.recorder.specs.RecorderCalls.{RefusesStep}
use Rattle.session.proofs.Driven.{goes_stepped, goes_unmoved}
use Rattle.session.specs.Chosen.{IsAskedOnce}
use Rattle.session.proofs.Chosen.{made_more, makes_asleep, makes_lost, makes_none, makes_one}
use Rattle.session.proofs.rounds.take_turn.Goals as goal

pub returns-clause-goes : goal.returns-clause-goes
returns-clause-goes g c = goes_stepped g.O.Outside.gives _ _ _ _ _ _ c.in-Ok.ensures.stepped c.in-Ok.ensures.recorded

pub returns-clause-stepped : goal.returns-clause-stepped
returns-clause-stepped g c _ = made_more g.O.Outside.gives _ _ _ _ _ _ c.in-Ok.ensures.stepped

pub returns-clause-turn : goal.returns-clause-turn
returns-clause-turn g c = makes_one g.C.Chooser.chooses g.O.Outside.gives _ _ _ _ _ _ _ _ c.in-Ok.ensures.stepped
    (subst (λ (x : GuestValue × Option Choice). Picks g.C.Chooser.chooses (state_of x.0) c.args.chooser.now x.1 c.choose.new.chooser)
    (λ i. (c.guest.ensures i, c.in-Some.is i)) c.in_ok-choice.ensures.picks)

pub returns-in_err-choice-clause-chosen : goal.returns-in_err-choice-clause-chosen
returns-in_err-choice-clause-chosen g c =
    let p = err_from_is_err_and c.from_residual.result c.from_residual.ensures.1 in
    rw p.1 (makes_none g.C.Chooser.chooses _ _ (IsAskedOnce g.C.Chooser.chooses c.choose.new.chooser (state_of c.args.recorder.now.guest))
    (inl c.in_err-choice.ensures.same))

-- ---- a step that is refused

pub returns-in-Err-Refused-Waiting-clause-goes : goal.returns-in-Err-Refused-Waiting-clause-goes
returns-in-Err-Refused-Waiting-clause-goes g c = goes_unmoved g.O.Outside.gives _ _ _ _ c.in-Err-Refused-Waiting.ensures.unmoved

-- no thread runs, so that the chooser wasn't asked
pub returns-in-Err-Refused-Waiting-clause-turn : goal.returns-in-Err-Refused-Waiting-clause-turn
returns-in-Err-Refused-Waiting-clause-turn g c =
    let w = c.in-Err-Refused-Waiting in
    let refused = subst (λ (e : RecorderFault). RefusesStep c.args.recorder.now c.in-Some.choice e)
    (w.field-0-is ∙ ap recorder_faults.Refused (rw w.field-0-is at w.field-0-0-is)) w.ensures.refused in
    makes_asleep g.C.Chooser.chooses g.O.Outside.gives _ _ _ _ _ _ _ w.ensures.unmoved refused.2
    (subst (λ (x : GuestValue × Option Choice). Picks g.C.Chooser.chooses (state_of x.0) c.args.chooser.now x.1 c.choose.new.chooser)
    (λ i. (c.guest.ensures i, c.in-Some.is i)) c.in_ok-choice.ensures.picks)

pub returns-in-Err-Refused-Waiting-clause-asleep : goal.returns-in-Err-Refused-Waiting-clause-asleep
returns-in-Err-Refused-Waiting-clause-asleep g c _ =
    let w = c.in-Err-Refused-Waiting in
    let refused = subst (λ (e : RecorderFault). RefusesStep c.args.recorder.now c.in-Some.choice e)
    (w.field-0-is ∙ ap recorder_faults.Refused (rw w.field-0-is at w.field-0-0-is)) w.ensures.refused in
    subst IsAsleep (sym w.ensures.unmoved.state) refused.2

pub returns-in-Err-clause-goes : goal.returns-in-Err-clause-goes
returns-in-Err-clause-goes g c = goes_unmoved g.O.Outside.gives _ _ _ _ c.in-Err.ensures.unmoved

pub returns-in-Err-clause-chosen : goal.returns-in-Err-clause-chosen
returns-in-Err-clause-chosen g c =
    makes_lost g.C.Chooser.chooses g.O.Outside.gives _ _ _ _ _ _ _ c.in-Err.ensures.unmoved
    (subst (λ (x : GuestValue × Option Choice). Picks g.C.Chooser.chooses (state_of x.0) c.args.chooser.now x.1 c.choose.new.chooser)
    (λ i. (c.guest.ensures i, c.in-Some.is i)) c.in_ok-choice.ensures.picks)
