use Rattle.std.proofs.Common.{length}
use Rattle.guest_threads.proofs.parts.+collect_threads.Given as goal

abbrev pub decreases-collect_threads : goal.decreases-collect_threads
decreases-collect_threads l = length l.threads.now
