use Rattle.guest_threads.proofs.ByTid.{one_set}
use Rattle.guest_threads.proofs.by_tid.add_thread.Goals as goal

pub returns-in-Ok-clause-added : goal.returns-in-Ok-clause-added
returns-in-Ok-clause-added c =
    one_set c.args.threads.now.entries c.insert.new.self.entries c.args.tid c.args.thread c.in-Ok.ensures.updates.0
