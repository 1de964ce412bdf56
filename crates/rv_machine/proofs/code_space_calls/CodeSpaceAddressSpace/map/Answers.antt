use Rattle.rv_machine.proofs.DroppedPages.{still_decoded, mapped_outside}
use Rattle.rv_machine.proofs.code_space_calls.CodeSpaceAddressSpace.map.Goals as goal

pub invariant_of-self : goal.invariant_of-self
invariant_of-self c =
    still_decoded c.map.result _ _ _ _ _ _ _ c.drop_range.ensures c.self.invariant c.map.ensures.mapped.ok c.map.ensures.mapped.err
    (mapped_outside c.args.page c.args.count c.args.permissions _)
