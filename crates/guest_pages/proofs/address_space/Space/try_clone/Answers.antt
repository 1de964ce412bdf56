use Rattle.std.proofs.Common.{None, ◌∙◌, ap}
use Rattle.page_tables.specs.Contents.{contents_of}
use Rattle.guest_pages.specs.Space.{SpaceValue, PageMap, memory_in, memory_of}
use Rattle.guest_pages.proofs.Copies.{copied_space}
use Rattle.guest_pages.proofs.SnapshotPages.{memory_kept}
use Rattle.guest_pages.proofs.address_space.Space.try_clone.Goals as goal

pub invariant_of-result : goal.invariant_of-result
invariant_of-result c =
    copied_space c.self.inside.tables c.in_ok-tables.tables c.self.inside.mapped c.self.invariant c.in_ok-tables.ensures.pages
    c.in_ok-tables.ensures.kept

pub returns-clause-memory : goal.returns-clause-memory
returns-clause-memory c =
    ap (λ (pages : PageMap). memory_in pages) c.in_ok-tables.ensures.pages ∙ ap (λ (s : SpaceValue). memory_of s) c.self.view_is

pub returns-clause-snapshots : goal.returns-clause-snapshots
returns-clause-snapshots c = λ n. memory_kept (contents_of c.in_ok-tables.tables).kept n None (c.in_ok-tables.ensures.kept n)
