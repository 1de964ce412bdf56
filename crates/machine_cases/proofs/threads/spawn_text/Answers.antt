use Rattle.machine_cases.proofs.threads.spawn_text.Goals as goal

pub spawn-requires-clause-fits : goal.spawn-requires-clause-fits
spawn-requires-clause-fits c = c.thread_from.ensures.fits c.args.threads.now.version
