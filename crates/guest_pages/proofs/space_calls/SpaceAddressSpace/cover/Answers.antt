use Rattle.std.proofs.Common.{◌≡◌, ◌∙◌, ◌+◌, ◌≤◌, ℕ, is_some, true, false, if◌then◌else◌, sym, ap, subst, arith}
use Rattle.rrv_model.specs.declared.limits.TheConstants.{MAX_PAGES}
use Rattle.rrv_model.specs.Memory.{page_count, is_mapped}
use Rattle.page_tables.specs.Contents.{contents_of}
use Rattle.page_tables.specs.Changes.{shown}
use Rattle.guest_pages.specs.Live.{live_of}
use Rattle.guest_pages.specs.Space.{SpaceValue, memory_of}
use Rattle.guest_pages.specs.Mapping.{covered}
use Rattle.guest_pages.proofs.Facts.{is_mapped_in, count_alike}
use Rattle.guest_pages.proofs.Live.{absent_adds}
use Rattle.guest_pages.proofs.MissingPages.{joined_each, joined_there, covered_joined, page_count_covered, covered_each, covered_added}
use Rattle.guest_pages.proofs.Spaces.{is_space}
use Rattle.guest_pages.proofs.Stays.{stays, snapshots_stay}
use Rattle.guest_pages.proofs.space_calls.SpaceAddressSpace.cover.Goals as goal
use Rattle.guest_pages.proofs.space_calls.SpaceAddressSpace.cover.Goals.{In_default}

-- where there is no page, one more would be mapped
total_after : (c : In_default) → page_count (covered c.args.page c.args.permissions (memory_of c.args.self.now))
    ≡ page_count (memory_of c.self.inside.tables) + 1
total_after c =
    ap (λ (s : SpaceValue). page_count (covered c.args.page c.args.permissions (memory_of s))) (sym c.self.view_is)
    ∙ page_count_covered (contents_of c.self.inside.tables).pages c.args.permissions c.args.page c.requires.high
    (sym c.page.ensures ∙ ap shown c.in_default.is)

unmapped_before : (c : In_default) → is_mapped (memory_of c.args.self.now) c.args.page ≡ false
unmapped_before c =
    ap (λ (s : SpaceValue). is_mapped (memory_of s) c.args.page) (sym c.self.view_is)
    ∙ is_mapped_in (contents_of c.self.inside.tables).pages c.args.page ∙ ap is_some (sym c.page.ensures ∙ ap shown c.in_default.is)

pub invariant_of-self : goal.invariant_of-self
invariant_of-self c =
    let pages = (contents_of c.self.inside.tables).pages in
    let after = (contents_of c.set_permissions.new.self).pages in
    let set = c.set_permissions.ensures in
    let found = sym c.page.ensures ∙ ap shown c.in-Some.is in
    let same : page_count (memory_of c.set_permissions.new.self) ≡ page_count (memory_of c.self.inside.tables) =
    count_alike pages after (joined_there pages after c.union-joined.result c.args.page set.page set.rest.pages) in
    is_space c.self.inside.tables c.set_permissions.new.self c.self.inside.mapped c.self.inside.mapped c.self.invariant
    (joined_each pages after c.args.permissions c.union-joined.result _ c.args.page c.union-joined.ensures c.self.invariant.pages.each
    c.requires.readable found set.page set.rest.pages)
    set.rest.kept (c.self.invariant.count ∙ sym same)
    (subst (λ (k : ℕ). k ≤ MAX_PAGES) (sym c.self.invariant.count) c.self.invariant.pages.limit)

pub returns-in-Some-clause-covered : goal.returns-in-Some-clause-covered
returns-in-Some-clause-covered c =
    let set = c.set_permissions.ensures in
    record {
      ok = covered_joined (contents_of c.self.inside.tables).pages (contents_of c.set_permissions.new.self).pages c.args.permissions
          c.union-joined.result _ c.args.page c.union-joined.ensures
          (sym c.page.ensures ∙ ap shown c.in-Some.is) set.page set.rest.pages
          ∙ ap (λ (s : SpaceValue). covered c.args.page c.args.permissions (memory_of s)) c.self.view_is;
      err = tt;
      snapshots = snapshots_stay c.self.inside.tables c.set_permissions.new.self _ set.rest.kept c.self.view_is;
    }

pub returns-then-self-ge-MAX_PAGES-clause-refused : goal.returns-then-self-ge-MAX_PAGES-clause-refused
returns-then-self-ge-MAX_PAGES-clause-refused c =
    let total = total_after (goal.at.returns-then-self-ge-MAX_PAGES-clause-refused c).In_default in
    let count = c.self.invariant.count in
    omega (arith, total, count, c.if-self-ge-MAX_PAGES.true)

pub returns-then-self-ge-MAX_PAGES-clause-grows : goal.returns-then-self-ge-MAX_PAGES-clause-grows
returns-then-self-ge-MAX_PAGES-clause-grows c = unmapped_before (goal.at.returns-then-self-ge-MAX_PAGES-clause-grows c).In_default

pub returns-in_default-place-clause-covered : goal.returns-in_default-place-clause-covered
returns-in_default-place-clause-covered c = stays _ _ _ _ (c.in_default-place.ensures.err ∙ c.self.view_is)

pub returns-in_default-place-clause-refused : goal.returns-in_default-place-clause-refused
returns-in_default-place-clause-refused c =
    let total = total_after (goal.at.returns-in_default-place-clause-refused c).In_default in
    let count = c.self.invariant.count in
    omega (arith, total, count, c.if-self-ge-MAX_PAGES.false)

pub returns-in_default-place-clause-grows : goal.returns-in_default-place-clause-grows
returns-in_default-place-clause-grows c = unmapped_before (goal.at.returns-in_default-place-clause-grows c).In_default

pub invariant_of-self-2 : goal.invariant_of-self-2
invariant_of-self-2 c =
    let pages = (contents_of c.self.inside.tables).pages in
    let after = (contents_of c.place.new.self).pages in
    let put = c.in-Ok.ensures.placed in
    let absent = sym c.page.ensures ∙ ap shown c.in_default.is in
    let total : page_count (memory_of c.place.new.self) ≡ page_count (memory_of c.self.inside.tables) + 1 =
    ap page_count (covered_added pages after c.args.permissions c.args.page absent put.here put.rest.pages)
    ∙ page_count_covered pages c.args.permissions c.args.page c.requires.high absent in
    let count = c.self.invariant.count in
    is_space c.self.inside.tables c.place.new.self c.self.inside.mapped _ c.self.invariant
    (covered_each pages after c.args.permissions c.args.page c.self.invariant.pages.each c.requires.low c.requires.high c.requires.readable
    put.here put.rest.pages)
    put.rest.kept (omega (arith, total, count)) (omega (arith, c.if-self-ge-MAX_PAGES.false))

pub returns-clause-covered : goal.returns-clause-covered
returns-clause-covered c =
    let put = c.in-Ok.ensures.placed in
    record {
      ok = covered_added (contents_of c.self.inside.tables).pages (contents_of c.place.new.self).pages c.args.permissions c.args.page
          (sym c.page.ensures ∙ ap shown c.in_default.is) put.here put.rest.pages
          ∙ ap (λ (s : SpaceValue). covered c.args.page c.args.permissions (memory_of s)) c.self.view_is;
      err = tt;
      snapshots = snapshots_stay c.self.inside.tables c.place.new.self _ put.rest.kept c.self.view_is;
    }

pub returns-in-Some-clause-live : goal.returns-in-Some-clause-live
returns-in-Some-clause-live c =
    let there : is_mapped (memory_of c.self.inside.tables) c.args.page ≡ true =
    is_mapped_in (contents_of c.self.inside.tables).pages c.args.page ∙ ap is_some (sym c.page.ensures ∙ ap shown c.in-Some.is) in
    let same : live_of c.set_permissions.new.self ≡ live_of c.self.inside.tables
    + (if is_mapped (memory_of c.self.inside.tables) c.args.page then 0 else 1) =
    rw there (omega (arith, c.set_permissions.ensures.live)) in
    subst (λ (s : SpaceValue). live_of c.set_permissions.new.self ≡ live_of s + (if is_mapped (memory_of s) c.args.page then 0 else 1))
    c.self.view_is same

pub returns-clause-live : goal.returns-clause-live
returns-clause-live c =
    let absent = sym c.page.ensures ∙ ap shown c.in_default.is in
    let not_there : is_mapped (memory_of c.self.inside.tables) c.args.page ≡ false =
    is_mapped_in (contents_of c.self.inside.tables).pages c.args.page ∙ ap is_some absent in
    let more : live_of c.place.new.self ≡ live_of c.self.inside.tables
    + (if is_mapped (memory_of c.self.inside.tables) c.args.page then 0 else 1) =
    rw not_there
    (omega (
      arith,
      c.in-Ok.ensures.placed.live,
      absent_adds c.self.inside.tables c.args.page (c.all_own.ensures.counted c.args.page).1 absent,
    )) in
    subst (λ (s : SpaceValue). live_of c.place.new.self ≡ live_of s + (if is_mapped (memory_of s) c.args.page then 0 else 1)) c.self.view_is
    more
