use Rattle.std.specs.Int.{w32, to_le_bytes}
use Rattle.guest_pages.specs.Space.{memory_of}
use Rattle.rv_machine.proofs.KeptPages.{pages_kept, store_keeps}
use Rattle.rv_machine.proofs.code_space_calls.CodeSpaceAddressSpace.store_word.Goals as goal

pub invariant_of-self : goal.invariant_of-self
invariant_of-self c =
    pages_kept (memory_of c.self.inside.space) (memory_of c.store_word.new.self) c.self.inside.pages.slots.items
    (store_keeps c.store_word.result c.self.inside.space c.store_word.new.self c.args.address (to_le_bytes w32 c.args.value)
    c.store_word.ensures.allowed c.store_word.ensures.stored.ok c.store_word.ensures.stored.err)
    c.self.invariant
