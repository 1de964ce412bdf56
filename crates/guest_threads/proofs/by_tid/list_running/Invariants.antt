use Rattle.std.proofs.Common.{◌≡◌, ◌++◌}
use Rattle.guest_threads.specs.Threads.{running_in}
use Rattle.guest_threads.proofs.by_tid.list_running.Given as goal

abbrev pub invariant-loop-tid : goal.invariant-loop-tid
invariant-loop-tid l = l.tids.items ++ running_in l.tid-iterator ≡ running_in l.threads.entries
