use Rattle.std.proofs.Common.{None}
use Rattle.guest_pages.proofs.Facts.{nothing_in_none}
use Rattle.page_tables.specs.Contents.{contents_of}
use Rattle.guest_pages.proofs.SnapshotPages.{memory_kept}
use Rattle.guest_pages.proofs.Spaces.{empty_space}
use Rattle.guest_pages.proofs.address_space.Space.new.Goals as goal

pub invariant_of-result : goal.invariant_of-result
invariant_of-result c = empty_space c.new.result c.new.ensures.pages c.new.ensures.kept

pub returns-clause-memory : goal.returns-clause-memory
returns-clause-memory c = nothing_in_none (contents_of c.new.result).pages c.new.ensures.pages

pub returns-clause-snapshots : goal.returns-clause-snapshots
returns-clause-snapshots c = λ n. memory_kept (contents_of c.new.result).kept n None (c.new.ensures.kept n)
