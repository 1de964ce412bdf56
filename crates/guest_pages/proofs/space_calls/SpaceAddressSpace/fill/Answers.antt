use Rattle.std.proofs.Common.{◌≡◌, true, sym, subst, length}
use Rattle.page_tables.specs.Contents.{contents_of}
use Rattle.guest_pages.specs.Space.{SpaceValue, memory_of, present}
use Rattle.guest_pages.proofs.Facts.{present_low}
use Rattle.guest_pages.proofs.space_calls.SpaceAddressSpace.fill.Goals as goal

pub fill_pages-requires-clause-low : goal.fill_pages-requires-clause-low
fill_pages-requires-clause-low c =
    present_low (contents_of c.self.inside.tables).pages c.self.invariant.pages.each c.args.address (length c.args.bytes.now)
    c.ranges.address.fits
    (subst (λ (s : SpaceValue). present (memory_of s) c.args.address (length c.args.bytes.now) ≡ true) (sym c.self.view_is) c.requires.0)
