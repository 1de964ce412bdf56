use Rattle.std.proofs.Common.{ℕ, List, inl, inr, refl, sym, ◌∙◌, ap, subst, rules}
use Rattle.std.proofs.lemmas.Bool.{false≢true}
use Rattle.rrv_model.specs.declared.record.End.TheVariants as ends
use Rattle.rrv_model.specs.State.{State}
use Rattle.rrv_model.specs.FrameStep.{EndsInCall}
use Rattle.guest_calls.specs.Guest.{state_of, chunks_of}
use Rattle.serial_sched.specs.Answered.{Recalls}
use Rattle.serial_sched.specs.declared.fault.FollowFault.TheVariants as faults
use Rattle.serial_sched.proofs.SliceLaws.{call_running, call_runs_on}
use Rattle.serial_sched.proofs.RecordedAnswers.{recalled}
use Rattle.serial_sched.proofs.FollowLaws.{refused, no_call, other_than_call, other_record, call_followed, call_put, call_meets}
use Rattle.serial_sched.proofs.following.follow_call.Goals as goal

pub call-requires-clause-running : goal.call-requires-clause-running
call-requires-clause-running c =
    let p = rw c.in-Call.is at c.in_ok-run_whole.ensures.runs in
    call_running c.args.count c.args.tid c.args.count (state_of c.args.guest.now) (state_of c.run_whole.new.guest) p

pub call-requires-clause-runs : goal.call-requires-clause-runs
call-requires-clause-runs c =
    let p = rw c.in-Call.is at c.in_ok-run_whole.ensures.runs in
    call_runs_on c.args.count c.args.tid c.args.count (state_of c.args.guest.now) (state_of c.run_whole.new.guest) p c.requires

pub returns-in_err-run_whole : goal.returns-in_err-run_whole
returns-in_err-run_whole c = record {
  follows = refused c.from_residual.result c.in_err-run_whole.field-0.0 (ends.Call c.args.told.now) c.args.tid c.args.count
      (state_of c.args.guest.now) (state_of c.run_whole.new.guest)
      c.from_residual.ensures.1
      (λ e. no_call (state_of c.args.guest.now) c.args.tid c.args.count c.args.told.now (c.in_err-run_whole.ensures.nowhere e))
      (λ e. inl (c.in_err-run_whole.ensures.memory e));
  puts = search rules;
  keeps = search rules;
  ran = search rules;
  snapshots = search rules;
}

pub returns-in_err-found-in-Call : goal.returns-in_err-found-in-Call
returns-in_err-found-in-Call c =
    let p = rw c.in-Call.is at c.in_ok-run_whole.ensures.runs in
    record {
      follows = refused {B = Unit {0}} c.from_residual-in_err-found-in-Call.result faults.Memory (ends.Call c.args.told.now) c.args.tid
          c.args.count (state_of c.args.guest.now) (state_of c.call.new.self)
          c.from_residual-in_err-found-in-Call.ensures.1 (λ e. absurd cc)
          (λ e. inr (call_meets c.args.count c.args.tid c.args.count (state_of c.args.guest.now) (state_of c.run_whole.new.guest) p
          c.in_err-found-in-Call.ensures.memory));
      puts = search rules;
      keeps = search rules;
      ran = search rules;
      snapshots = search rules;
    }

pub returns-then-not-is_same_call : goal.returns-then-not-is_same_call
returns-then-not-is_same_call c =
    let run = rw c.in-Call.is at c.in_ok-run_whole.ensures.runs in
    record {
      follows = λ new p. other_record recalled c.args.tid c.args.count c.in_ok-found-in-Call.found c.args.told.now
          (state_of c.args.guest.now) (state_of c.run_whole.new.guest)
          c.of-outside.result c.call.new.outside
          (λ question answer given. subst (λ (bytes : List ℕ). Recalls bytes question answer) c.of-outside.ensures given)
          (λ same. false≢true (c.if-not-is_same_call.ensures.1 same)) run c.in_ok-found-in-Call.ensures.answered new p;
      puts = tt;
      keeps = tt;
      ran = tt;
      snapshots = search rules;
    }

pub returns-else-not-is_same_call : goal.returns-else-not-is_same_call
returns-else-not-is_same_call c =
    let run = rw c.in-Call.is at c.in_ok-run_whole.ensures.runs in
    record {
      follows = subst (λ (s : State). EndsInCall (state_of c.args.guest.now) c.args.tid c.args.count c.args.told.now s)
          (sym c.close_slice.ensures.state)
          (call_followed c.args.tid c.args.count c.in_ok-found-in-Call.found c.args.told.now c.in_ok-found-in-Call.ensures.calls.0
          (state_of c.args.guest.now)
          (state_of c.run_whole.new.guest) (state_of c.call.new.self) (c.if-not-is_same_call.ensures.0 refl) run
          c.in_ok-found-in-Call.ensures.calls.1);
      puts = call_put c.args.tid c.args.count c.in_ok-found-in-Call.found c.args.told.now c.in_ok-found-in-Call.ensures.calls.0
          (state_of c.args.guest.now)
          (state_of c.run_whole.new.guest) (state_of c.call.new.self) (chunks_of c.close_slice.new.self.put)
          (c.if-not-is_same_call.ensures.0 refl) run
          c.in_ok-found-in-Call.ensures.calls.1 (ap chunks_of c.close_slice.ensures.put ∙ c.in_ok-found-in-Call.ensures.puts);
      keeps = tt;
      ran = search rules;
      snapshots = search rules;
    }

pub returns-in_default : goal.returns-in_default
returns-in_default c = record {
  follows = λ new p. other_than_call c.in_ok-run_whole.field-0 c.args.tid c.args.count c.args.told.now (state_of c.args.guest.now)
      (state_of c.run_whole.new.guest)
      c.in_default.not-Call c.in_ok-run_whole.ensures.runs new p;
  puts = tt;
  keeps = tt;
  ran = tt;
  snapshots = search rules;
}
