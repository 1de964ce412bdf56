use Rattle.std.proofs.Common.{Option, ◌∙◌, ap, arith, rules}
use Rattle.std.proofs.lemmas.Bool.{false≢true}
use Rattle.rrv_model.specs.declared.machine.GuestEnd.{GuestEnd}
use Rattle.rrv_model.specs.FrameStep.{closed_by}
use Rattle.rrv_model.proofs.Ends.{rests}
use Rattle.guest_calls.specs.Guest.{state_of}
use Rattle.serial_sched.proofs.FollowLaws.{kept, without_call}
use Rattle.serial_sched.proofs.following.follow_threadless.Goals as goal

pub returns : goal.returns
returns c = record {
  follows = rests c.args.end.now (state_of c.args.guest.now) c.args.tid c.args.count (state_of c.close_slice.new.self) c.requires.none
      c.requires.still
      (omega (arith, c.if-tid-ne0.false)) (omega (arith, c.if-count-ne0.false))
      (λ t runs. false≢true (c.if-has_running.ensures.1 (t, runs)))
      (λ t timed. false≢true (c.if-has_timed.ensures.1 (t, timed)))
      (c.close_slice.ensures.state ∙ ap (λ (o : Option GuestEnd). closed_by o (state_of c.args.guest.now)) c.guest_end.ensures);
  puts = without_call c.args.end.now _ c.requires.none;
  keeps = kept c.args.end.now c.close_slice.ensures.put;
  ran = search rules;
  snapshots = search rules;
}
