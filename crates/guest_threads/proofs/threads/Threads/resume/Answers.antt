use Rattle.rrv_model.proofs.ThreadRules.{moved, keeps_woken}
use Rattle.guest_threads.proofs.threads.Threads.resume.Goals as goal

pub invariant_of-self : goal.invariant_of-self
invariant_of-self c = moved c.put_wait.ensures c.take_out.ensures (keeps_woken _ _ _ c.args.tid c.self.invariant)
