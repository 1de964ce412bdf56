use Rattle.std.proofs.Common.{◌≡◌, ℕ, zero, suc, refl, arith}
use Rattle.rrv_model.specs.State.{State}
use Rattle.rv_machine.specs.Watching.{WatchedSteps}
use Rattle.guest_calls.specs.Guest.{state_of}
use Rattle.guest_calls.specs.Runs.{Watched}
use Rattle.serial_sched.proofs.FollowLaws.{other_end}
use Rattle.serial_sched.proofs.following.watched_steps.Goals as goal

none_watched : (a count tid : ℕ) (s : State) → count ≡ 0 → Watched a count tid s 0 s
unfolding WatchedSteps
none_watched a zero tid s none = (refl, refl)
none_watched a (suc n) tid s none = absurd (omega (arith, none))

pub returns-then-count-eq0-clause-watched : goal.returns-then-count-eq0-clause-watched
returns-then-count-eq0-clause-watched c =
    none_watched c.args.address c.args.count c.args.tid (state_of c.args.guest.now) c.if-count-eq0.true

pub returns-in-Memory-clause-memory : goal.returns-in-Memory-clause-memory
returns-in-Memory-clause-memory c =
    λ e. let p = rw c.in-Memory.is at c.watch_thread-watched.ensures.runs in
    record {
      done = c.watch_thread-watched.result.run.count;
      within = p.within;
      last = state_of c.watch_thread-watched.new.self;
      steps = p.steps;
      stores = p.takes;
    }

pub returns-in_default-clause-nowhere : goal.returns-in_default-clause-nowhere
returns-in_default-clause-nowhere c =
    λ e new p. other_end c.watch_thread-watched.result.run.end c.args.tid c.args.count c.watch_thread-watched.result.run.count
    (state_of c.args.guest.now)
    (state_of c.watch_thread-watched.new.self) c.in_default.not-Limit c.in_default.not-Memory c.watch_thread-watched.ensures.runs new p
