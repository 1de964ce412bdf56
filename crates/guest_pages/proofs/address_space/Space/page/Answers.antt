use Rattle.std.proofs.Common.{◌∙◌, subst}
use Rattle.page_tables.specs.Contents.{contents_of}
use Rattle.guest_pages.specs.Space.{SpaceValue, memory_of}
use Rattle.guest_pages.specs.Snapshots.{IsPageOf}
use Rattle.guest_pages.proofs.Spaces.{page_read}
use Rattle.guest_pages.proofs.address_space.Space.page.Goals as goal

pub returns : goal.returns
returns c =
    subst (λ (s : SpaceValue). IsPageOf (memory_of s) c.args.number c.view_of.result) c.self.view_is
    (page_read (contents_of c.self.inside.tables).pages c.args.number c.view_of.result (c.view_of.ensures ∙ c.page.ensures))
