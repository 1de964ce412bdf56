use Rattle.std.proofs.Common.{◌≡◌, ◌+◌, ◌∙◌, subst, None, refl, ap, sym, arith}
use Rattle.page_tables.specs.Contents.{contents_of}
use Rattle.guest_pages.specs.Live.{freed_for, live_of}
use Rattle.guest_pages.specs.Space.{SpaceValue, memory_of}
use Rattle.guest_pages.proofs.Live.{absent_frees}
use Rattle.guest_pages.specs.WholePages.{with_page}
use Rattle.guest_pages.proofs.Ranges.{count_removed}
use Rattle.guest_pages.proofs.Spaces.{is_space, removed_each, no_page}
use Rattle.guest_pages.proofs.Stays.{snapshots_stay}
use Rattle.guest_pages.proofs.WholePages.{put_in}
use Rattle.guest_pages.proofs.address_space.Space.remove_page.Goals as goal

pub returns-then-not-is_there-clause-removed : goal.returns-then-not-is_there-clause-removed
returns-then-not-is_there-clause-removed c =
    let pages = (contents_of c.self.inside.tables).pages in
    record {
      memory = ap (λ (s : SpaceValue). memory_of s) (sym c.self.view_is)
          ∙ put_in pages pages c.args.number None (no_page (pages c.args.number) (sym c.is_there.ensures ∙ c.if-not-is_there.true))
          (λ q apart. refl)
          ∙ ap (λ (s : SpaceValue). with_page c.args.number None (memory_of s)) c.self.view_is;
      snapshots = refl;
    }

pub overflow_sub-self : goal.overflow_sub-self
overflow_sub-self c =
    let gone = c.remove.ensures in
    let count = count_removed (contents_of c.self.inside.tables).pages (contents_of c.remove.new.self).pages c.args.number
    c.self.invariant.pages.each
    (sym c.is_there.ensures ∙ c.if-not-is_there.false) gone.here gone.rest.pages in
    let held = c.self.invariant.count in
    omega (arith, count, held)

pub invariant_of-self : goal.invariant_of-self
invariant_of-self c =
    let gone = c.remove.ensures in
    let pages = (contents_of c.self.inside.tables).pages in
    let after = (contents_of c.remove.new.self).pages in
    let count = count_removed pages after c.args.number c.self.invariant.pages.each (sym c.is_there.ensures ∙ c.if-not-is_there.false)
    gone.here gone.rest.pages in
    let held = c.self.invariant.count in
    let limit = c.self.invariant.pages.limit in
    is_space c.self.inside.tables c.remove.new.self c.self.inside.mapped _ c.self.invariant
    (removed_each pages after c.args.number c.self.invariant.pages.each gone.here gone.rest.pages)
    gone.rest.kept (omega (arith, count, held)) (omega (arith, count, held, limit))

pub returns-clause-removed : goal.returns-clause-removed
returns-clause-removed c =
    let gone = c.remove.ensures in
    record {
      memory = put_in (contents_of c.self.inside.tables).pages (contents_of c.remove.new.self).pages c.args.number None gone.here
          gone.rest.pages
          ∙ ap (λ (s : SpaceValue). with_page c.args.number None (memory_of s)) c.self.view_is;
      snapshots = snapshots_stay c.self.inside.tables c.remove.new.self _ gone.rest.kept c.self.view_is;
    }

pub returns-then-not-is_there-clause-live : goal.returns-then-not-is_there-clause-live
returns-then-not-is_there-clause-live c =
    let pages = (contents_of c.self.inside.tables).pages in
    let none = absent_frees c.self.inside.tables c.args.number (c.all_own.ensures.counted c.args.number).1
    (no_page (pages c.args.number) (sym c.is_there.ensures ∙ c.if-not-is_there.true)) in
    subst (λ (s : SpaceValue). live_of s + freed_for s c.args.number ≡ live_of s) c.self.view_is (omega (arith, none))

pub returns-clause-live : goal.returns-clause-live
returns-clause-live c =
    subst (λ (s : SpaceValue). live_of c.remove.new.self + freed_for s c.args.number ≡ live_of s) c.self.view_is c.remove.ensures.live
