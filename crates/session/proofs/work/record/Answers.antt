use Rattle.std.proofs.Common.{sym, subst, Option}
use Rattle.faults.specs.declared.session.SessionFault.{SessionFault}
use Rattle.session.specs.Works.{FaultTellsSink}
use Rattle.guest_calls.specs.Guest.{GuestValue, state_of}
use Rattle.recorder.specs.RecorderCalls.{KeepsMade}
use Rattle.session.specs.Chosen.{LeavesChooser, MakesChosen}
use Rattle.session.proofs.Chosen.{makes_fault, makes_kept}
use Rattle.session.proofs.Driven.{drives_both, drives_still, fault_tells}
use Rattle.session.proofs.work.record.Goals as goal

pub returns-in-Err-clause-drives : goal.returns-in-Err-clause-drives
returns-in-Err-clause-drives g c =
    drives_both g.S.Sink _ _ _ _ _ _ c.drive-driven.ensures.drives (drives_still g.S.Sink _ _ _ c.end_early.ensures.goes)

pub returns-in-Err-clause-chosen : goal.returns-in-Err-clause-chosen
returns-in-Err-clause-chosen g c =
    let kept : KeepsMade c.drive-driven.new.recorder c.end_early.new.recorder = c.end_early.ensures.keeps in
    subst (λ (x : Option SessionFault × GuestValue). MakesChosen g.C.Chooser.chooses c.args.recorder.now c.args.job.now.chooser
    c.end_early.new.recorder
    (LeavesChooser g.C.Chooser.chooses x.0 c.drive-driven.new.chooser (state_of x.1)))
    (λ i. (sym c.end_early.ensures.told i, sym kept.guest i))
    (makes_fault g.C.Chooser.chooses _ _ _ _ _ _ c.in-Err.fault (makes_kept g.C.Chooser.chooses _ _ _ _ _ kept c.in-Err.ensures.chosen))

pub returns-in-Err-clause-sink : goal.returns-in-Err-clause-sink
returns-in-Err-clause-sink g c =
    subst (λ (o : Option SessionFault). FaultTellsSink o (g.S.Sink.faults c.args.job.now.sink) (g.S.Sink.faults c.drive-driven.new.sink))
    (sym c.end_early.ensures.told)
    (fault_tells _ _ _ _ c.in-Err.ensures.sink)
