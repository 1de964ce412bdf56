use Rattle.machine_cases.proofs.threads.Subject.open.Goals as goal

pub open-requires-clause-fits : goal.open-requires-clause-fits
open-requires-clause-fits c = c.thread_from.ensures.fits c.args.version
