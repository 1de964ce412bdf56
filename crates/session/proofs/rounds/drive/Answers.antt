use Rattle.std.proofs.Common.{sym, ◌∙◌, subst}
use Rattle.std.proofs.lemmas.Result.{err_from_is_err_and}
use Rattle.guest_calls.specs.Guest.{GuestValue, state_of}
use Rattle.recorder.specs.RecorderCalls.{KeepsMade}
use Rattle.std.specs.Prelude.{Err}
use Rattle.session.specs.Chosen.{IsLeftWith, MakesChosen, WorkLeaves}
use Rattle.session.specs.declared.rounds.WorkFault.{WorkFault}
use Rattle.session.proofs.Chosen.{makes_kept, makes_settled}
use Rattle.session.proofs.Driven.{call_tells_settled, drives_both, drives_more, work_tells}
use Rattle.session.proofs.rounds.drive.Goals as goal

pub returns-in_err-settle-clause-drives : goal.returns-in_err-settle-clause-drives
returns-in_err-settle-clause-drives g c =
    let s = c.settle.ensures in
    drives_both g.S.Sink _ _ _ _ _ _ c.make_frames.ensures.drives (drives_more g.S.Sink _ _ _ _ _ s.keeps s.put)

pub returns-clause-drives : goal.returns-clause-drives
returns-clause-drives g c =
    let s = c.settle.ensures in
    drives_both g.S.Sink _ _ _ _ _ _ c.make_frames.ensures.drives (drives_more g.S.Sink _ _ _ _ _ s.keeps s.put)

pub returns-in_err-make_frames-clause-chosen : goal.returns-in_err-make_frames-clause-chosen
returns-in_err-make_frames-clause-chosen g c =
    let p = err_from_is_err_and c.from_residual.result c.from_residual.ensures.1 in
    rw p.1 (subst (λ (e : WorkFault). MakesChosen g.C.Chooser.chooses c.args.recorder.now c.args.chooser.now c.make_frames.new.recorder
    (WorkLeaves g.C.Chooser.chooses (Err e) c.make_frames.new.chooser (state_of c.make_frames.new.recorder.guest))) (sym p.2)
    c.in_err-make_frames.ensures.chosen)

pub returns-in_err-settle-clause-chosen : goal.returns-in_err-settle-clause-chosen
returns-in_err-settle-clause-chosen g c =
    let p = err_from_is_err_and c.from_residual-in_err-settle.result c.from_residual-in_err-settle.ensures.1 in
    let kept : KeepsMade c.make_frames.new.recorder c.settle.new.self = c.settle.ensures.keeps in
    rw p.1 (makes_settled g.C.Chooser.chooses _ _ _ _ _ p.0 p.2
    (subst (λ (v : GuestValue). MakesChosen g.C.Chooser.chooses c.args.recorder.now c.args.chooser.now c.settle.new.self
    (IsLeftWith g.C.Chooser.chooses c.make_frames.new.chooser (state_of v))) (sym kept.guest)
    (makes_kept g.C.Chooser.chooses _ _ _ _ _ kept c.in_ok-make_frames.ensures.chosen)))

pub returns-clause-chosen : goal.returns-clause-chosen
returns-clause-chosen g c =
    let kept : KeepsMade c.make_frames.new.recorder c.settle.new.self = c.settle.ensures.keeps in
    subst (λ (v : GuestValue). MakesChosen g.C.Chooser.chooses c.args.recorder.now c.args.chooser.now c.settle.new.self
    (IsLeftWith g.C.Chooser.chooses c.make_frames.new.chooser (state_of v))) (sym kept.guest)
    (makes_kept g.C.Chooser.chooses _ _ _ _ _ kept c.in_ok-make_frames.ensures.chosen)

pub returns-in_err-settle-clause-sink : goal.returns-in_err-settle-clause-sink
returns-in_err-settle-clause-sink g c =
    let p = err_from_is_err_and c.from_residual-in_err-settle.result c.from_residual-in_err-settle.ensures.1 in
    rw p.1 (work_tells _ _ _ _ _ (call_tells_settled c.settle.new.self _ _ _ c.in_err-settle.ensures.refused)
    c.in_ok-make_frames.ensures.sink p.2)

pub returns-clause-sink : goal.returns-clause-sink
returns-clause-sink g c = c.in_ok-settle.ensures.steady ∙ c.in_ok-make_frames.ensures.sink
