use Rattle.std.proofs.Common.{◌↔◌, ℕ, List, Contains, sym, subst}
use Rattle.std.specs.FinMap.{get}
use Rattle.std.specs.List.Sorted.{IsStrictlyIncreasing}
use Rattle.rrv_model.specs.State.{IsRunning}
use Rattle.guest_threads.specs.Threads.{thread_map}
use Rattle.guest_threads.proofs.RunningTids.{on_err, rising, which}
use Rattle.guest_threads.proofs.by_tid.running_tids.Goals as goal

pub returns-clause-rising : goal.returns-clause-rising
returns-clause-rising c =
    subst (λ (xs : List ℕ). IsStrictlyIncreasing xs) (sym c.in_ok-tids.ensures.tids)
    (rising c.args.threads.now.entries c.len-ordered.ensures.ordered)

pub returns-clause-running : goal.returns-clause-running
returns-clause-running c = λ tid.
    let es = c.args.threads.now.entries in
    subst (λ (xs : List ℕ). Contains xs tid ↔ IsRunning (get (thread_map es) tid)) (sym c.in_ok-tids.ensures.tids)
    (which es c.len-ordered.ensures.ordered tid)

pub returns-in_err-tids-clause-memory : goal.returns-in_err-tids-clause-memory
returns-in_err-tids-clause-memory c =
    let es = c.args.threads.now.entries in
    let some = c.in_err-tids.ensures.memory in
    on_err c.from_residual.result (some.0, (which es c.len-ordered.ensures.ordered some.0).0 some.1)
