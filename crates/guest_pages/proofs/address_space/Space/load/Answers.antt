use Rattle.std.proofs.Common.{◌≡◌, true, false, length, sym, subst, arith}
use Rattle.page_tables.specs.Contents.{contents_of}
use Rattle.guest_pages.specs.Space.{SpaceValue, memory_of, present}
use Rattle.guest_pages.proofs.Cells.{absent_unreadable}
use Rattle.guest_pages.proofs.Facts.{present_low}
use Rattle.guest_pages.proofs.address_space.Space.load.Goals as goal

pub returns-then-not-passes-clause-refused : goal.returns-then-not-passes-clause-refused
returns-then-not-passes-clause-refused c =
    let absent : present (memory_of c.args.self.now) c.args.address (length c.args.into.now) ≡ false = grind arith in
    (absent, absent_unreadable (memory_of c.args.self.now) c.args.address (length c.args.into.now) absent)

pub load_pages-requires-clause-low : goal.load_pages-requires-clause-low
load_pages-requires-clause-low c =
    let there : present (memory_of c.args.self.now) c.args.address (length c.args.into.now) ≡ true = grind arith in
    present_low (contents_of c.self.inside.tables).pages c.self.invariant.pages.each c.args.address (length c.args.into.now)
    c.ranges.address.fits
    (subst (λ (s : SpaceValue). present (memory_of s) c.args.address (length c.args.into.now) ≡ true) (sym c.self.view_is) there)
