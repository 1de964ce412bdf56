use Rattle.std.proofs.Common.{◌≡◌, ◌∙◌, ◌+◌, false, Some, subst, sym, ap, arith}
use Rattle.rrv_model.specs.Memory.{page_count, is_mapped}
use Rattle.page_tables.specs.Contents.{contents_of}
use Rattle.guest_pages.specs.Live.{added_for, live_of}
use Rattle.guest_pages.specs.Space.{SpaceValue, memory_of}
use Rattle.guest_pages.specs.WholePages.{with_page}
use Rattle.guest_pages.proofs.Facts.{is_mapped_in}
use Rattle.guest_pages.proofs.Spaces.{is_space, no_page}
use Rattle.guest_pages.proofs.Stays.{stays, snapshots_stay}
use Rattle.guest_pages.proofs.WholePages.{page_count_put, page_count_over, put_in, put_each}
use Rattle.guest_pages.proofs.address_space.Space.put_page.Goals as goal
use Rattle.guest_pages.proofs.address_space.Space.put_page.Goals.{After-is_there}

-- where there is no page, one more would be mapped
total_after : (c : After-is_there) → c.is_there.result ≡ false → page_count (with_page c.args.number (Some c.args.page)
    (memory_of c.args.self.now))
    ≡ page_count (memory_of c.self.inside.tables) + 1
total_after c absent =
    ap (λ (s : SpaceValue). page_count (with_page c.args.number (Some c.args.page) (memory_of s))) (sym c.self.view_is)
    ∙ page_count_put (contents_of c.self.inside.tables).pages c.args.page c.args.number c.requires.1
    (no_page ((contents_of c.self.inside.tables).pages c.args.number) (sym c.is_there.ensures ∙ absent))

pub returns-in_default-clause-set : goal.returns-in_default-clause-set
returns-in_default-clause-set c = stays _ _ _ _ (c.in_default.ensures.err ∙ c.self.view_is)

pub returns-in_default-place-clause-set : goal.returns-in_default-place-clause-set
returns-in_default-place-clause-set c = stays _ _ _ _ (c.in_default-place.ensures.err ∙ c.self.view_is)

pub returns-in_default-clause-refused : goal.returns-in_default-clause-refused
returns-in_default-clause-refused c =
    let total : page_count (with_page c.args.number (Some c.args.page) (memory_of c.args.self.now))
    ≡ page_count (memory_of c.self.inside.tables) =
    ap (λ (s : SpaceValue). page_count (with_page c.args.number (Some c.args.page) (memory_of s))) (sym c.self.view_is)
    ∙ page_count_over (contents_of c.self.inside.tables).pages c.args.page c.args.number (sym c.is_there.ensures ∙ c.if-is_there.true) in
    let limit = c.self.invariant.pages.limit in
    omega (arith, total, limit)

pub invariant_of-self-then-is_there : goal.invariant_of-self-then-is_there
invariant_of-self-then-is_there c =
    let pages = (contents_of c.self.inside.tables).pages in
    let after = (contents_of c.place.new.self).pages in
    let put = c.in-Ok.ensures.placed in
    let total : page_count (memory_of c.place.new.self) ≡ page_count (memory_of c.self.inside.tables) =
    ap page_count (put_in pages after c.args.number (Some c.args.page) put.here put.rest.pages)
    ∙ page_count_over (contents_of c.self.inside.tables).pages c.args.page c.args.number
    (sym c.is_there.ensures ∙ c.if-is_there.true) in
    let count = c.self.invariant.count in
    let limit = c.self.invariant.pages.limit in
    is_space c.self.inside.tables c.place.new.self c.self.inside.mapped c.self.inside.mapped c.self.invariant
    (put_each pages after c.args.number c.args.page c.self.invariant.pages.each c.requires c.has_page_bytes.ensures.0
    c.has_page_bytes.ensures.1 put.here put.rest.pages)
    put.rest.kept (omega (arith, total, count)) (omega (arith, count, limit))

pub returns-then-is_there-clause-set : goal.returns-then-is_there-clause-set
returns-then-is_there-clause-set c =
    let put = c.in-Ok.ensures.placed in
    record {
      ok = put_in (contents_of c.self.inside.tables).pages (contents_of c.place.new.self).pages c.args.number (Some c.args.page) put.here
          put.rest.pages
          ∙ ap (λ (s : SpaceValue). with_page c.args.number (Some c.args.page) (memory_of s)) c.self.view_is;
      err = tt;
      snapshots = snapshots_stay c.self.inside.tables c.place.new.self _ put.rest.kept c.self.view_is;
    }

pub returns-then-self-ge-MAX_PAGES-clause-refused : goal.returns-then-self-ge-MAX_PAGES-clause-refused
returns-then-self-ge-MAX_PAGES-clause-refused c =
    let total = total_after (goal.at.returns-then-self-ge-MAX_PAGES-clause-refused c).After-is_there c.if-is_there.false in
    let count = c.self.invariant.count in
    omega (arith, total, count, c.if-self-ge-MAX_PAGES.true)

pub returns-then-self-ge-MAX_PAGES-clause-too_many : goal.returns-then-self-ge-MAX_PAGES-clause-too_many
returns-then-self-ge-MAX_PAGES-clause-too_many c = λ e.
    ap (λ (s : SpaceValue). is_mapped (memory_of s) c.args.number) (sym c.self.view_is)
    ∙ is_mapped_in (contents_of c.self.inside.tables).pages c.args.number ∙ sym c.is_there.ensures ∙ c.if-is_there.false

pub returns-in_default-place-clause-refused : goal.returns-in_default-place-clause-refused
returns-in_default-place-clause-refused c =
    let total = total_after (goal.at.returns-in_default-place-clause-refused c).After-is_there c.if-is_there.false in
    let count = c.self.invariant.count in
    omega (arith, total, count, c.if-self-ge-MAX_PAGES.false)

pub invariant_of-self-2 : goal.invariant_of-self-2
invariant_of-self-2 c =
    let pages = (contents_of c.self.inside.tables).pages in
    let after = (contents_of c.place-2.new.self).pages in
    let put = c.in-Ok-place.ensures.placed in
    let total : page_count (memory_of c.place-2.new.self) ≡ page_count (memory_of c.self.inside.tables) + 1 =
    ap page_count (put_in pages after c.args.number (Some c.args.page) put.here put.rest.pages)
    ∙ page_count_put (contents_of c.self.inside.tables).pages c.args.page c.args.number c.requires.1
    (no_page ((contents_of c.self.inside.tables).pages c.args.number) (sym c.is_there.ensures ∙ c.if-is_there.false)) in
    let count = c.self.invariant.count in
    is_space c.self.inside.tables c.place-2.new.self c.self.inside.mapped _ c.self.invariant
    (put_each pages after c.args.number c.args.page c.self.invariant.pages.each c.requires c.has_page_bytes.ensures.0
    c.has_page_bytes.ensures.1 put.here put.rest.pages)
    put.rest.kept (omega (arith, total, count)) (omega (arith, c.if-self-ge-MAX_PAGES.false))

pub returns-clause-set : goal.returns-clause-set
returns-clause-set c =
    let put = c.in-Ok-place.ensures.placed in
    record {
      ok = put_in (contents_of c.self.inside.tables).pages (contents_of c.place-2.new.self).pages c.args.number (Some c.args.page) put.here
          put.rest.pages
          ∙ ap (λ (s : SpaceValue). with_page c.args.number (Some c.args.page) (memory_of s)) c.self.view_is;
      err = tt;
      snapshots = snapshots_stay c.self.inside.tables c.place-2.new.self _ put.rest.kept c.self.view_is;
    }

pub returns-then-is_there-clause-live : goal.returns-then-is_there-clause-live
returns-then-is_there-clause-live c =
    subst (λ (s : SpaceValue). live_of c.place.new.self ≡ live_of s + added_for s c.args.number) c.self.view_is c.in-Ok.ensures.placed.live

pub returns-clause-live : goal.returns-clause-live
returns-clause-live c =
    subst (λ (s : SpaceValue). live_of c.place-2.new.self ≡ live_of s + added_for s c.args.number) c.self.view_is
    c.in-Ok-place.ensures.placed.live
