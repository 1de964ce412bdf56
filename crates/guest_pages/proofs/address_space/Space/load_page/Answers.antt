use Rattle.std.proofs.Common.{◌≡◌, ◌∙◌, ℕ, ◌+◌, ◌/◌, Option, IsSome, Some, None, ap, refl, sym, subst, arith}
use Rattle.rrv_model.specs.Memory.{byte_or_zero}
use Rattle.page_tables.specs.Contents.{contents_of}
use Rattle.page_tables.specs.Changes.{shown}
use Rattle.page_tables.specs.declared.page_tables.PageView.{PageView}
use Rattle.guest_pages.specs.Space.{PageMap, SpaceValue, memory_in, memory_of, page_at}
use Rattle.guest_pages.proofs.Cells.{cell_at}
use Rattle.guest_pages.proofs.Stores.{page_there}
use Rattle.guest_pages.proofs.address_space.Space.load_page.Goals as goal

-- where a byte is there, its page is read
is_read : (pages : PageMap) (a : ℕ) (view : Option PageView) → IsSome (memory_in pages a) → shown view ≡ page_at pages (a / 4096) →
    IsSome view
is_read pages a None there e = absurd (page_there pages a there (sym e))
is_read pages a (Some v) there e = refl

pub unwrap-page-requires : goal.unwrap-page-requires
unwrap-page-requires c =
    is_read (contents_of c.self.inside.tables).pages c.args.address c.page.result
    (subst (λ (s : SpaceValue). IsSome (memory_of s c.args.address)) (sym c.self.view_is) c.requires.there)
    c.page.ensures

pub returns : goal.returns
returns c = λ k l.
    let found = sym c.page.ensures ∙ ap shown c.unwrap-page.ensures in
    let cell = cell_at (contents_of c.self.inside.tables).pages (shown (Some c.unwrap-page.result)) c.args.address k found
    (omega (arith, c.requires.fits)) in
    c.copy_bytes.ensures k l ∙ sym (ap byte_or_zero cell)
    ∙ ap (λ (s : SpaceValue). byte_or_zero (memory_of s (c.args.address + k))) c.self.view_is
