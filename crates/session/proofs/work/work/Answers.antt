use Rattle.std.proofs.Common.{ap, subst, ◌∙◌, true}
use Rattle.commit_group.specs.Seats.{RecorderValue}
use Rattle.session.specs.Works.{AreMet}
use Rattle.session.proofs.Worked.{worked, worked_none}
use Rattle.session.proofs.work.work.Goals as goal

pub returns-in-Err : goal.returns-in-Err
returns-in-Err g c =
    worked_none g.C.Chooser g.S.Sink c.args.task c.leave.new.self
    (c.leave.ensures ∙ ap (λ (q : RecorderValue). record q { has_left = true }) c.in-Err.ensures.back) c.requires.sent

pub returns-in-Ok : goal.returns-in-Ok
returns-in-Ok g c =
    let r = c.record-fault.ensures in
    let met : AreMet c.guest-guest.result c.record-fault.result =
    subst (λ n. AreMet n c.record-fault.result) c.new-post.ensures r.met in
    worked g.C.Chooser g.S.Sink c.guest-guest.result c.args.task.seat _ _ _ _ _ _ c.guest-guest.ensures.0 c.in-Ok.ensures.seat
    c.in-Ok.ensures.driven r.drives r.job met r.sink c.in-Ok.ensures.start r.chosen r.done c.leave-worked.ensures.left
