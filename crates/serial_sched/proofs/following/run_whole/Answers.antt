use Rattle.std.proofs.Common.{arith}
use Rattle.std.proofs.lemmas.Bool.{false≢true}
use Rattle.guest_calls.specs.Guest.{state_of}
use Rattle.serial_sched.proofs.OneStep.{running_at, stopped}
use Rattle.serial_sched.proofs.following.run_whole.Goals as goal

pub returns-then-not-is_running-clause-nowhere : goal.returns-then-not-is_running-clause-nowhere
returns-then-not-is_running-clause-nowhere c =
    λ e end new p. false≢true
    (c.if-not-is_running.ensures.runs.1 (running_at end c.args.count c.args.tid (state_of c.args.guest.now) new (omega arith) p))

pub returns-in-Memory-clause-memory : goal.returns-in-Memory-clause-memory
returns-in-Memory-clause-memory c =
    λ e. let p = rw c.in-Memory.is at c.run_thread-run.ensures.runs in
    record {
      done = c.run_thread-run.result.count;
      within = p.within;
      last = state_of c.run_thread-run.new.self;
      steps = p.steps;
      stores = p.takes;
    }

pub returns-then-run-count-clause-nowhere : goal.returns-then-run-count-clause-nowhere
returns-then-run-count-clause-nowhere c =
    λ e end new p. stopped c.run_thread-run.result.end c.args.count c.run_thread-run.result.count c.args.tid (state_of c.args.guest.now)
    (state_of c.run_thread-run.new.self)
    c.in_default.not-Memory c.if-run-count.true c.run_thread-run.ensures.runs end new p
