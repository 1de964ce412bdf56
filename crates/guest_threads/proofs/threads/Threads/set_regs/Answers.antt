use Rattle.std.proofs.Common.{refl}
use Rattle.rrv_model.proofs.ThreadRules.{moved, keeps_changed}
use Rattle.guest_threads.proofs.threads.Threads.set_regs.Goals as goal

pub invariant_of-self : goal.invariant_of-self
invariant_of-self c =
    moved c.put_regs.ensures refl (keeps_changed _ _ _ c.args.tid (λ t. record t { regs = c.args.regs }) c.self.invariant
    (λ t is. record { regs = c.requires; waits = is.waits; clear = is.clear }) (λ t. refl))
