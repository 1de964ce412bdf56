use Rattle.guest_threads.proofs.ByTid.{one_removed}
use Rattle.guest_threads.proofs.by_tid.remove_thread.Goals as goal

pub returns : goal.returns
returns c = one_removed c.args.threads.now.entries c.remove.new.self.entries c.args.tid c.remove.ensures.updates.0
