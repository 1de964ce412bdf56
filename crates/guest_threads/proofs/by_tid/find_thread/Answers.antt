use Rattle.std.proofs.Common.{sym, ◌∙◌}
use Rattle.guest_threads.proofs.ByTid.{get_thread}
use Rattle.guest_threads.proofs.by_tid.find_thread.Goals as goal

pub returns : goal.returns
returns c = c.copied.ensures ∙ c.get.ensures.value ∙ sym (get_thread c.args.threads.now.entries c.args.tid)
