use Rattle.std.proofs.Common.{refl, arith}
use Rattle.rrv_model.specs.CallRows.{set_register}
use Rattle.rrv_model.proofs.StepRules.{regs-with_register}
use Rattle.rrv_model.proofs.ThreadRules.{moved, keeps_changed}
use Rattle.guest_threads.proofs.threads.Threads.set_result.Goals as goal

pub invariant_of-self : goal.invariant_of-self
invariant_of-self c =
    moved c.put_result.ensures refl (keeps_changed _ _ _ c.args.tid (set_register 10 c.args.value) c.self.invariant
    (λ t is. record { regs = regs-with_register 10 c.args.value t.regs (omega arith) is.regs; waits = is.waits; clear = is.clear })
    (λ t. refl))
