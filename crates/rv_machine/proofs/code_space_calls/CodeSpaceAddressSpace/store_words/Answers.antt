use Rattle.std.proofs.Common.{refl, sym, subst, IsTrue}
use Rattle.std.specs.Int.{w32, to_le_bytes}
use Rattle.rrv_model.specs.CallRows.{all_writable}
use Rattle.guest_pages.specs.Space.{SpaceValue, memory_of}
use Rattle.rv_machine.proofs.KeptPages.{pages_kept, words_keep}
use Rattle.rv_machine.proofs.code_space_calls.CodeSpaceAddressSpace.store_words.Goals as goal

pub invariant_of-self : goal.invariant_of-self
invariant_of-self c =
    let allowed = subst (λ (s : SpaceValue). IsTrue (all_writable (memory_of s) c.args.places.now)) (sym c.self.view_is) c.requires in
    pages_kept (memory_of c.self.inside.space) (memory_of c.store_words.new.self) c.self.inside.pages.slots.items
    (words_keep c.store_words.result c.self.inside.space c.store_words.new.self c.args.places.now (to_le_bytes w32 c.args.word)
    refl allowed c.store_words.ensures.stored.ok c.store_words.ensures.stored.err)
    c.self.invariant
