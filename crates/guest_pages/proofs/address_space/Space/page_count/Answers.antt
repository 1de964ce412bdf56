use Rattle.std.proofs.Common.{◌∙◌, ap, subst}
use Rattle.rrv_model.specs.Memory.{IsMemory, page_count}
use Rattle.page_tables.specs.Contents.{contents_of}
use Rattle.guest_pages.specs.Space.{SpaceValue, memory_of}
use Rattle.guest_pages.proofs.Facts.{is_memory}
use Rattle.guest_pages.proofs.address_space.Space.page_count.Goals as goal

pub returns-clause-count : goal.returns-clause-count
returns-clause-count c = c.self.invariant.count ∙ ap (λ (s : SpaceValue). page_count (memory_of s)) c.self.view_is

pub returns-clause-is_memory : goal.returns-clause-is_memory
returns-clause-is_memory c =
    subst (λ (s : SpaceValue). IsMemory (memory_of s)) c.self.view_is
    (is_memory (contents_of c.self.inside.tables).pages c.self.invariant.pages)
