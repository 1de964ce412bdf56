use Rattle.rv_machine.proofs.DroppedPages.{still_decoded, covered_outside}
use Rattle.rv_machine.proofs.code_space_calls.CodeSpaceAddressSpace.cover.Goals as goal

pub invariant_of-self : goal.invariant_of-self
invariant_of-self c =
    still_decoded c.cover.result _ 1 _ _ _ _ _ c.drop_range.ensures c.self.invariant c.cover.ensures.covered.ok c.cover.ensures.covered.err
    (covered_outside c.args.page c.args.permissions _)
