use Rattle.std.proofs.Common.{◌≡◌, true, sym, subst, refl, rules}
use Rattle.rrv_model.specs.State.{IsRunning}
use Rattle.guest_threads.specs.Threads.{ThreadsValue, thread_in}
use Rattle.rrv_model.proofs.ThreadRules.{moved, keeps_left}
use Rattle.guest_threads.proofs.threads.Threads.exit.Goals as goal

pub invariant_of-self : goal.invariant_of-self
invariant_of-self c =
    let runs : c.is_running.result ≡ true = search rules in
    moved c.remove_thread.ensures refl (keeps_left _ _ _ c.args.tid c.self.invariant
    (subst (λ (v : ThreadsValue). IsRunning (thread_in v c.args.tid)) (sym c.self.view_is) (c.is_running.ensures.runs.0 runs)))
