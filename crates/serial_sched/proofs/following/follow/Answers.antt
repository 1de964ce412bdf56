use Rattle.std.proofs.Common.{arith, sym, ◌∙◌}
use Rattle.guest_calls.specs.Guest.{state_of}
use Rattle.serial_sched.proofs.FollowLaws.{frame_followed, frame_goes_nowhere, frame_meets, not_ended}
use Rattle.serial_sched.proofs.following.follow.Goals as goal

pub returns-clause-follows : goal.returns-clause-follows
returns-clause-follows c =
    let runs = not_ended c.ended.result (state_of c.args.guest.now).ended c.ended.ensures (sym c.if-is_some.false ∙ c.is_some.ensures) in
    frame_followed c.args.frame.now (state_of c.args.guest.now) (state_of c.follow_to_end.new.guest) c.follow_to_end.result runs
    (omega arith) c.follow_to_end.ensures.follows

pub returns-clause-nowhere : goal.returns-clause-nowhere
returns-clause-nowhere c =
    frame_goes_nowhere c.args.frame.now (state_of c.args.guest.now) (state_of c.follow_to_end.new.guest) c.follow_to_end.result
    c.follow_to_end.ensures.follows

pub returns-clause-memory : goal.returns-clause-memory
returns-clause-memory c =
    let runs = not_ended c.ended.result (state_of c.args.guest.now).ended c.ended.ensures (sym c.if-is_some.false ∙ c.is_some.ensures) in
    frame_meets c.args.frame.now (state_of c.args.guest.now) (state_of c.follow_to_end.new.guest) c.follow_to_end.result runs (omega arith)
    c.follow_to_end.ensures.follows

pub follow_to_end-requires : goal.follow_to_end-requires
follow_to_end-requires c =
    not_ended c.ended.result (state_of c.args.guest.now).ended c.ended.ensures (sym c.if-is_some.false ∙ c.is_some.ensures)
