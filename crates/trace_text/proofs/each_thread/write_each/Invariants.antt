use Rattle.std.specs.Prelude.{flat_map}
use Rattle.std.specs.Fmt.{HasWritten, IsPlainFormatter}
use Rattle.std.specs.FinMap.{entries}
use Rattle.guest_threads.specs.Threads.{thread_map}
use Rattle.trace_text.proofs.Tids.{below}
use Rattle.trace_text.proofs.each_thread.write_each.Given as goal

abbrev pub invariant-loop-tid : goal.invariant-loop-tid
invariant-loop-tid g l =
    IsPlainFormatter l.initial.f → HasWritten g.W.Write.write_str_gives l.initial.f
    (flat_map (λ e. g.T.ThreadText.text e.0 e.1) (below l.tid (entries (thread_map l.threads.threads)))) l.f
