use Rattle.guest_calls.proofs.CloneParts.{child_is}
use Rattle.rrv_model.specs.declared.machine.Version.TheVariants.{One}
use Rattle.guest_calls.proofs.clone.child_of.Goals as goal

pub returns-clause-value : goal.returns-clause-value
returns-clause-value c =
    child_is c.args.thread.now c.with_register-zeroed.result c.with_stack-stacked.result c.with_thread_pointer.result c.clear_address.result
    c.requires.running
    c.with_register-zeroed.ensures.value c.with_stack-stacked.ensures.value c.with_thread_pointer.ensures.value c.clear_address.ensures

pub with_register-zeroed-requires-clause-fits : goal.with_register-zeroed-requires-clause-fits
with_register-zeroed-requires-clause-fits c = (c.requires.fits One).regs
