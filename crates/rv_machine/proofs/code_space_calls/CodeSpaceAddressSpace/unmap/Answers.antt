use Rattle.std.proofs.Common.{sym, subst}
use Rattle.rrv_model.specs.Memory.{Memory}
use Rattle.guest_pages.specs.Space.{memory_of}
use Rattle.rv_machine.specs.DecodedPages.{IsSameOutside}
use Rattle.rv_machine.proofs.DroppedPages.{unmapped_outside}
use Rattle.rv_machine.proofs.code_space_calls.CodeSpaceAddressSpace.unmap.Goals as goal

pub invariant_of-self : goal.invariant_of-self
invariant_of-self c =
    let m = memory_of c.self.inside.space in
    c.drop_range.ensures m (memory_of c.unmap.new.self) c.self.invariant
    (subst (λ (after : Memory). IsSameOutside c.args.page c.args.count m after) (sym c.unmap.ensures.unmapped.memory)
    (unmapped_outside c.args.page c.args.count m))
