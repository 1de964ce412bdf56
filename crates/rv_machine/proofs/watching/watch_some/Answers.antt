use Rattle.guest_pages.specs.Space.{memory_of}
use Rattle.rv_machine.proofs.KeptPages.{pages_kept, run_keeps}
use Rattle.rv_machine.proofs.watching.watch_some.Goals as goal

pub invariant_of-space : goal.invariant_of-space
invariant_of-space c =
    pages_kept (memory_of c.space.inside.space) (memory_of c.watch_alone.new.space) c.space.inside.pages.slots.items
    (run_keeps c.watch_alone.result.end 1 c.watch_alone.result.count _ _ c.watch_alone.ensures.runs.runs) c.space.invariant

pub invariant_of-space-in_default : goal.invariant_of-space-in_default
invariant_of-space-in_default c =
    pages_kept (memory_of c.space.inside.space) (memory_of c.watch_alone-in_default.new.space) c.ready.new.self.slots.items
    (run_keeps c.watch_alone-in_default.result.end 1 c.watch_alone-in_default.result.count _ _ c.watch_alone-in_default.ensures.runs.runs)
    (c.ready.ensures c.space.invariant)

pub watch_decoded-requires-clause-decoded : goal.watch_decoded-requires-clause-decoded
watch_decoded-requires-clause-decoded c = c.in-Some.ensures.kept (memory_of c.space.inside.space) (c.ready.ensures c.space.invariant)

pub invariant_of-space-2 : goal.invariant_of-space-2
invariant_of-space-2 c =
    pages_kept (memory_of c.space.inside.space) (memory_of c.watch_decoded.new.space) c.ready.new.self.slots.items
    (run_keeps c.watch_decoded.result.end c.args.limit c.watch_decoded.result.count _ _ c.watch_decoded.ensures.runs.runs)
    (c.ready.ensures c.space.invariant)
