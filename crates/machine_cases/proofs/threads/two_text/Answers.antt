use Rattle.rrv_model.specs.declared.machine.Version.TheVariants.{One}
use Rattle.machine_cases.proofs.threads.two_text.Goals as goal

pub set_regs-requires : goal.set_regs-requires
set_regs-requires c = (c.thread_from.ensures.fits One).regs
