use Rattle.std.proofs.Common.{ℕ, OnErr, subst}
use Rattle.rrv_model.specs.State.{IsRunning}
use Rattle.guest_threads.specs.Threads.{ThreadsValue, thread_in}
use Rattle.guest_threads.proofs.threads.Threads.running.Goals as goal

pub returns-clause-memory : goal.returns-clause-memory
returns-clause-memory c =
    subst (λ (v : ThreadsValue). OnErr c.running_tids.result ((tid : ℕ) × IsRunning (thread_in v tid))) c.self.view_is
    c.running_tids.ensures.memory
