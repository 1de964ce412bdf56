use Rattle.std.proofs.Common.{◌≡◌, ◌++◌}
use Rattle.guest_threads.specs.ThreadParts.{entries_of}
use Rattle.guest_threads.proofs.parts.list_parts.Given as goal

abbrev pub invariant-loop-tid : goal.invariant-loop-tid
invariant-loop-tid l = entries_of l.parts.items ++ l.tid-iterator ≡ l.threads.entries
