use Rattle.std.proofs.Common.{◌≡◌, ◌∙◌, true, ap, sym, subst, length}
use Rattle.page_tables.specs.Contents.{contents_of}
use Rattle.guest_pages.specs.Space.{SpaceValue, memory_of, snapshots_of, present, CanFill}
use Rattle.guest_pages.proofs.Facts.{present_low}
use Rattle.guest_pages.proofs.OwnPages.{own_alone}
use Rattle.guest_pages.proofs.SnapshotPages.{none_kept}
use Rattle.guest_pages.proofs.address_space.Space.fill_unshared.Goals as goal

pub fill_pages-requires-clause-fill : goal.fill_pages-requires-clause-fill
fill_pages-requires-clause-fill c =
    let there = subst (λ (s : SpaceValue). present (memory_of s) c.args.address (length c.args.bytes.now) ≡ true) (sym c.self.view_is)
    c.requires.there in
    let own = c.all_own.ensures.own
    (λ i. none_kept (contents_of c.self.inside.tables).kept i
    (ap (λ (s : SpaceValue). snapshots_of s i) c.self.view_is ∙ c.requires.alone i)) in
    subst (λ (s : SpaceValue). CanFill s c.args.address (length c.args.bytes.now)) c.self.view_is
    (own_alone c.self.inside.tables c.args.address (length c.args.bytes.now) there own)

pub fill_pages-requires-clause-low : goal.fill_pages-requires-clause-low
fill_pages-requires-clause-low c =
    present_low (contents_of c.self.inside.tables).pages c.self.invariant.pages.each c.args.address (length c.args.bytes.now)
    c.ranges.address.fits
    (subst (λ (s : SpaceValue). present (memory_of s) c.args.address (length c.args.bytes.now) ≡ true) (sym c.self.view_is)
    c.requires.there)
