use Rattle.std.proofs.Common.{◌∙◌, ap, sym}
use Rattle.page_tables.specs.Contents.{contents_of}
use Rattle.guest_pages.specs.Space.{SpaceValue, memory_of}
use Rattle.guest_pages.proofs.SameMemory.{decides_same}
use Rattle.guest_pages.proofs.address_space.Space.same.Goals as goal

pub returns : goal.returns
returns c =
    let h = decides_same (contents_of c.self.inside.tables).pages (contents_of c.other.inside.tables).pages c.self.invariant.pages.each
    c.other.invariant.pages.each
    c.same_pages.result c.same_pages.ensures.all c.same_pages.ensures.one in
    let here = ap (λ (s : SpaceValue). memory_of s) c.self.view_is in
    let there = ap (λ (s : SpaceValue). memory_of s) c.other.view_is in
    (λ t. sym here ∙ h.0 t ∙ there, λ e. h.1 (here ∙ e ∙ sym there))
