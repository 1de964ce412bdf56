use Rattle.std.proofs.Common.{◌∙◌, ap}
use Rattle.rrv_model.specs.Memory.{all_free}
use Rattle.guest_pages.specs.Space.{SpaceValue, memory_of}
use Rattle.guest_pages.proofs.Ranges.{free_by_first}
use Rattle.guest_pages.proofs.address_space.Space.is_free.Goals as goal

pub returns : goal.returns
returns c =
    free_by_first (memory_of c.self.inside.tables) c.args.page c.args.count c.first_there.result c.is_none.result c.is_none.ensures
    c.first_there.ensures.some c.first_there.ensures.none
    ∙ ap (λ (s : SpaceValue). all_free (memory_of s) c.args.page c.args.count) c.self.view_is
