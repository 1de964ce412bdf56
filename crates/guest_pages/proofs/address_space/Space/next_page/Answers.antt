use Rattle.std.proofs.Common.{subst}
use Rattle.page_tables.specs.Contents.{contents_of}
use Rattle.guest_pages.specs.Space.{SpaceValue, memory_of}
use Rattle.guest_pages.specs.Snapshots.{IsNextPage}
use Rattle.guest_pages.proofs.NextPages.{next_mapped}
use Rattle.guest_pages.proofs.address_space.Space.next_page.Goals as goal

pub returns : goal.returns
returns c =
    subst (λ (s : SpaceValue). IsNextPage (memory_of s) c.args.least c.next.result) c.self.view_is
    (next_mapped (contents_of c.self.inside.tables).pages c.args.least c.next.result c.next.ensures)
