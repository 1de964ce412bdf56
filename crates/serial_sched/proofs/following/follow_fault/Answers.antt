use Rattle.std.proofs.Common.{◌≡◌, sym, ◌∙◌, subst, rules}
use denote.Enum.Bare.{differs_true, differs_false}
use Rattle.rrv_model.specs.contracts.machine.FaultKind.{the_type}
use Rattle.rrv_model.specs.declared.machine.FaultKind.{FaultKind}
use Rattle.rrv_model.specs.declared.record.End.TheVariants as ends
use Rattle.rrv_model.specs.Step.{FaultsFrom}
use Rattle.guest_calls.specs.Guest.{state_of}
use Rattle.serial_sched.proofs.FollowLaws.{other_than_fault, no_fault, refused, same_kinds}
use Rattle.serial_sched.proofs.following.follow_fault.Goals as goal

pub returns-in_err-found : goal.returns-in_err-found
returns-in_err-found c = record {
  follows = refused c.from_residual.result c.in_err-found.field-0.0 (ends.Fault c.args.kind) c.args.tid c.args.count
      (state_of c.args.guest.now)
      (state_of c.run_whole.new.guest)
      c.from_residual.ensures.1
      (λ e. no_fault (state_of c.args.guest.now) c.args.tid c.args.count c.args.kind (c.in_err-found.ensures.nowhere e))
      c.in_err-found.ensures.memory;
  puts = search rules;
  keeps = search rules;
  ran = search rules;
  snapshots = search rules;
}

pub returns-then-ne : goal.returns-then-ne
returns-then-ne c = record {
  follows = λ new p. other_than_fault c.in_ok-found.field-0 c.args.tid c.args.count c.args.kind (state_of c.args.guest.now)
      (state_of c.run_whole.new.guest)
      (λ k. differs_true the_type c.in-Fault.found c.args.kind (sym c.ne.ensures ∙ c.if-ne.true)
      (same_kinds c.in_ok-found.field-0 c.in-Fault.found c.args.kind c.in-Fault.is k)) c.in_ok-found.ensures.runs new p;
  puts = tt;
  keeps = tt;
  ran = tt;
  snapshots = search rules;
}

pub returns-else-ne : goal.returns-else-ne
returns-else-ne c =
    let p = rw c.in-Fault.is at c.in_ok-found.ensures.runs in
    let same : c.in-Fault.found ≡ c.args.kind = differs_false the_type (search rules) _ _ (sym c.ne.ensures ∙ c.if-ne.false) in
    record {
      follows = record {
        some = p.some;
        before = state_of c.run_whole.new.guest;
        steps = p.steps;
        faults = subst (λ (kind : FaultKind). FaultsFrom (state_of c.run_whole.new.guest) c.args.tid kind) same p.faults;
        new_is = c.close_slice.ensures.state;
      };
      puts = tt;
      keeps = search rules;
      ran = search rules;
      snapshots = search rules;
    }

pub returns-in_default : goal.returns-in_default
returns-in_default c = record {
  follows = λ new p. other_than_fault c.in_ok-found.field-0 c.args.tid c.args.count c.args.kind (state_of c.args.guest.now)
      (state_of c.run_whole.new.guest)
      (λ k. c.in_default.not-Fault c.args.kind k) c.in_ok-found.ensures.runs new p;
  puts = tt;
  keeps = tt;
  ran = tt;
  snapshots = search rules;
}
