use Rattle.std.proofs.Common.{◌∙◌}
use Rattle.guest_threads.proofs.ByTid.{counted}
use Rattle.guest_threads.proofs.by_tid.count_threads.Goals as goal

pub returns : goal.returns
returns c = c.len.ensures.len ∙ counted c.args.threads.now.entries c.len.ensures.ordered
