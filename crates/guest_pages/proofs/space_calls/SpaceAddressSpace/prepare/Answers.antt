use Rattle.std.proofs.Common.{◌≡◌, true, refl, sym, subst, false, is_some, arith}
use Rattle.rrv_model.specs.Memory.{can_write, writable}
use Rattle.page_tables.specs.Contents.{contents_of}
use Rattle.guest_pages.specs.Space.{SpaceValue, memory_of, present}
use Rattle.guest_pages.proofs.Facts.{present_low}
use Rattle.guest_pages.proofs.Live.{none_across}
use Rattle.guest_pages.proofs.OwnPages.{none_to_fill}
use Rattle.guest_pages.proofs.Cells.{absent_forbids, some_cell}
use Rattle.guest_pages.proofs.space_calls.SpaceAddressSpace.prepare.Goals as goal

pub returns-then-not-passes-clause-refused : goal.returns-then-not-passes-clause-refused
returns-then-not-passes-clause-refused c =
    let absent : present (memory_of c.args.self.now) c.args.address c.args.count ≡ false = grind arith in
    (absent, absent_forbids (memory_of c.args.self.now) c.args.address c.args.count absent)

pub returns-then-not-passes-clause-some : goal.returns-then-not-passes-clause-some
returns-then-not-passes-clause-some c =
    let absent : present (memory_of c.args.self.now) c.args.address c.args.count ≡ false = grind arith in
    some_cell is_some (memory_of c.args.self.now) c.args.address c.args.count absent

pub returns-then-not-passes-2-clause-some : goal.returns-then-not-passes-2-clause-some
returns-then-not-passes-2-clause-some c =
    let forbidden : writable (memory_of c.args.self.now) c.args.address c.args.count ≡ false = grind arith in
    some_cell can_write (memory_of c.args.self.now) c.args.address c.args.count forbidden

pub returns-then-count-eq0-clause-prepared : goal.returns-then-count-eq0-clause-prepared
returns-then-count-eq0-clause-prepared c = record {
  ready = none_to_fill c.args.self.now c.args.address c.args.count c.if-count-eq0.true;
  memory = refl;
  err = tt;
  snapshots = refl;
  live = omega (arith, none_across c.args.self.now c.args.address c.args.count c.if-count-eq0.true);
}

pub own_pages-requires-clause-low : goal.own_pages-requires-clause-low
own_pages-requires-clause-low c =
    let there : present (memory_of c.args.self.now) c.args.address c.args.count ≡ true = grind arith in
    present_low (contents_of c.self.inside.tables).pages c.self.invariant.pages.each c.args.address c.args.count c.ranges.address.fits
    (subst (λ (s : SpaceValue). present (memory_of s) c.args.address c.args.count ≡ true) (sym c.self.view_is) there)
