use Rattle.rv_machine.proofs.DroppedPages.{still_decoded, with_page_outside}
use Rattle.rv_machine.proofs.code_space_calls.CodeSpaceAddressSpace.set_page.Goals as goal

pub invariant_of-self : goal.invariant_of-self
invariant_of-self c =
    still_decoded c.set_page.result _ 1 _ _ _ _ _ c.drop_range.ensures c.self.invariant c.set_page.ensures.set.ok c.set_page.ensures.set.err
    (with_page_outside c.args.number c.args.page _)
