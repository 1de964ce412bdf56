use Rattle.std.proofs.Common.{◌*◌, arith, ◌∙◌}
use Rattle.guest_pages.specs.Space.{memory_of}
use Rattle.guest_buffers.proofs.Buffers.{readable_within, readable_further, readable_low, no_buffers, buffers_next}
use Rattle.guest_buffers.proofs.lists.list_buffers.Goals as goal

pub loop-place-init : goal.loop-place-init
loop-place-init c =
    (c.new-buffers.ensures.items ∙ no_buffers (memory_of c.args.space.now) c.args.address, omega (arith, c.new-buffers.ensures.len))

pub overflow_add-at : goal.overflow_add-at
overflow_add-at c =
    let low = readable_low (memory_of c.args.space.now) c.args.address (8 * c.args.count) (8 * c.loop-place.place)
    c.page_count-memory.ensures.is_memory c.requires.readable (omega arith) in
    omega (arith, low)

pub word-requires : goal.word-requires
word-requires c =
    readable_within (memory_of c.args.space.now) c.args.address (8 * c.args.count) (8 * c.loop-place.place) 4 c.requires.readable
    (omega arith)

pub overflow_add-at-in-loop-place : goal.overflow_add-at-in-loop-place
overflow_add-at-in-loop-place c =
    let low = readable_low (memory_of c.args.space.now) c.args.address (8 * c.args.count) (8 * c.loop-place.place)
    c.page_count-memory.ensures.is_memory c.requires.readable (omega arith) in
    omega (arith, low)

pub word-requires-in-loop-place : goal.word-requires-in-loop-place
word-requires-in-loop-place c =
    readable_further (memory_of c.args.space.now) c.args.address (8 * c.args.count) (8 * c.loop-place.place) 4 4 c.requires.readable
    (omega arith)

pub loop-place-preserved : goal.loop-place-preserved
loop-place-preserved c = (
  buffers_next (memory_of c.args.space.now) c.args.address c.loop-place.place c.word.result c.word-in-loop-place.result
      c.loop-place.buffers.items c.push.new.self.items
      c.loop-place.invariant.0 c.in-Ok.ensures.items c.word.ensures c.word-in-loop-place.ensures,
  omega (arith, c.in-Ok.ensures.len, c.loop-place.invariant.1),
)
