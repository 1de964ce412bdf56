use Rattle.guest_threads.proofs.Waking.{WakesOn}
use Rattle.guest_threads.proofs.threads.Threads.wake.Given as goal

abbrev pub invariant-loop-done : goal.invariant-loop-done
invariant-loop-done l = WakesOn l.fn.address l.fn.count l.done l.fn.self l.self
