use Rattle.std.proofs.Common.{arith, rules}
use Rattle.rrv_model.specs.declared.record.End.TheVariants as ends
use Rattle.guest_calls.specs.Guest.{state_of}
use Rattle.serial_sched.proofs.FollowLaws.{refused}
use Rattle.serial_sched.proofs.following.follow_preempt.Goals as goal

pub returns-in_err-steps : goal.returns-in_err-steps
returns-in_err-steps c = record {
  follows = refused c.from_residual.result c.in_err-steps.field-0.0 ends.Preempt c.args.tid c.args.count (state_of c.args.guest.now)
      (state_of c.steps.new.guest) c.from_residual.ensures.1
      (λ e other p. c.in_err-steps.ensures.nowhere e p.last p.steps) c.in_err-steps.ensures.memory;
  puts = search rules;
  keeps = search rules;
  ran = search rules;
  snapshots = search rules;
}

pub returns : goal.returns
returns c = record {
  follows = record {
    some = omega arith;
    last = state_of c.steps.new.guest;
    steps = c.in_ok-steps.ensures.follows;
    new_is = c.close_slice.ensures.state;
  };
  puts = tt;
  keeps = search rules;
  ran = search rules;
  snapshots = search rules;
}
