use Rattle.std.proofs.Common.{refl, arith}
use Rattle.rrv_model.proofs.ThreadRules.{moved, keeps_changed}
use Rattle.guest_threads.proofs.threads.Threads.set_clear.Goals as goal

pub invariant_of-self : goal.invariant_of-self
invariant_of-self c =
    moved c.put_clear.ensures refl (keeps_changed _ _ _ c.args.tid (λ t. record t { clear = c.args.address }) c.self.invariant
    (λ t is. record { regs = is.regs; waits = is.waits; clear = omega arith }) (λ t. refl))
