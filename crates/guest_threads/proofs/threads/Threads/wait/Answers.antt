use Rattle.std.proofs.Common.{◌≡◌, true, sym, subst, rules}
use Rattle.rrv_model.specs.State.{IsRunning, IsWait}
use Rattle.guest_threads.specs.Threads.{ThreadsValue, thread_in}
use Rattle.rrv_model.proofs.ThreadRules.{moved, keeps_waits}
use Rattle.guest_threads.proofs.threads.Threads.wait.Goals as goal

pub invariant_of-self : goal.invariant_of-self
invariant_of-self c =
    let runs : c.is_running.result ≡ true = search rules in
    moved c.put_wait.ensures c.in-Ok.ensures.items (keeps_waits _ _ _ c.args.tid c.args.wait c.self.invariant
    (subst (λ (v : ThreadsValue). IsRunning (thread_in v c.args.tid)) (sym c.self.view_is) (c.is_running.ensures.runs.0 runs))
    (subst (λ (v : ThreadsValue). IsWait v.version c.args.wait) (sym c.self.view_is) c.requires.fits))
