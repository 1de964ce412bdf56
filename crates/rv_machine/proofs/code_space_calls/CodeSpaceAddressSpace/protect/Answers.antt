use Rattle.rv_machine.proofs.DroppedPages.{still_decoded, protected_outside}
use Rattle.rv_machine.proofs.code_space_calls.CodeSpaceAddressSpace.protect.Goals as goal

pub invariant_of-self : goal.invariant_of-self
invariant_of-self c =
    still_decoded c.protect.result _ _ _ _ _ _ _ c.drop_range.ensures c.self.invariant c.protect.ensures.protected.ok
    c.protect.ensures.protected.err
    (protected_outside c.args.page c.args.count c.args.permissions _)
