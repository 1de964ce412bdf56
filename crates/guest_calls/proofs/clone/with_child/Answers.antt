use Rattle.std.proofs.Common.{◌∙◌, ap}
use Rattle.guest_threads.specs.Threads.{ThreadsValue, spawned, with_threads}
use Rattle.guest_calls.proofs.clone.with_child.Goals as goal

pub returns-in-Ok : goal.returns-in-Ok
returns-in-Ok c = λ s. c.in-Ok.ensures.spawned s ∙ ap (λ (v : ThreadsValue). spawned c.args.child (with_threads v s)) c.in_ok-more.ensures

pub spawn-requires-clause-fits : goal.spawn-requires-clause-fits
spawn-requires-clause-fits c = c.requires.runs.fits _
