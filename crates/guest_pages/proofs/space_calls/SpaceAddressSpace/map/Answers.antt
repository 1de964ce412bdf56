use Rattle.std.proofs.Common.{◌≡◌, ◌∙◌, ℕ, ◌+◌, ◌*◌, false, List, sym, ap, subst, arith}
use Rattle.rrv_model.specs.Memory.{is_within, mapped, page_count, page_bytes}
use Rattle.page_tables.specs.Contents.{contents_of}
use Rattle.page_tables.specs.Changes.{is_listed, IsOwn, AreOwned}
use Rattle.guest_pages.specs.Live.{added_in, live_of}
use Rattle.guest_pages.specs.Space.{SpaceValue, memory_of}
use Rattle.guest_pages.specs.Mapping.{AreOwnIn}
use Rattle.guest_pages.proofs.MissingPages.{page_count_mapped, mapped_in, mapped_each, others_after}
use Rattle.guest_pages.proofs.Live.{listed_adds}
use Rattle.guest_pages.proofs.OwnPages.{all_own_in}
use Rattle.guest_pages.proofs.Spaces.{is_space}
use Rattle.guest_pages.proofs.Stays.{stays, snapshots_stay}
use Rattle.guest_pages.proofs.space_calls.SpaceAddressSpace.map.Goals as goal
use Rattle.guest_pages.proofs.space_calls.SpaceAddressSpace.map.Goals.{After-count_missing-more, In-Ok-own_each, After-clear_pages}

-- how many pages would be mapped
total_after : (c : After-count_missing-more) →
    page_count (mapped (c.args.page * page_bytes) (c.args.count * page_bytes) c.args.permissions (memory_of c.args.self.now))
    ≡ page_count (memory_of c.self.inside.tables) + c.count_missing-more.result
total_after c =
    ap (λ (s : SpaceValue). page_count (mapped (c.args.page * page_bytes) (c.args.count * page_bytes) c.args.permissions (memory_of s)))
    (sym c.self.view_is)
    ∙ page_count_mapped (contents_of c.self.inside.tables).pages c.args.permissions c.args.page c.args.count c.requires.high
    ∙ ap (λ (k : ℕ). page_count (memory_of c.self.inside.tables) + k) (sym c.count_missing-more.ensures.count)

-- the pages of the range are the space's own
owned_after : (c : In-Ok-own_each) → AreOwned c.in-Ok.numbers.items (contents_of c.self.inside.tables) (contents_of c.own_each.new.self)
owned_after c =
    subst (λ (xs : List ℕ). AreOwned xs (contents_of c.self.inside.tables) (contents_of c.own_each.new.self)) c.as_slice.ensures.value
    c.in-Ok-own_each.ensures.owned

-- and the others stay
unmapped_after : (c : After-clear_pages) → AreOwned c.in-Ok.numbers.items (contents_of c.self.inside.tables)
    (contents_of c.own_each.new.self) →
    (q : ℕ) → is_within c.args.page c.args.count q ≡ false →
    (contents_of c.clear_pages.new.tables).pages q ≡ (contents_of c.self.inside.tables).pages q
unmapped_after c owned =
    let cleared = c.clear_pages.ensures in
    others_after (contents_of c.self.inside.tables).pages (contents_of c.own_each.new.self).pages
    (contents_of c.clear_pages.new.tables).pages
    c.in-Ok.numbers.items c.args.page c.args.count c.in-Ok.ensures.from c.in-Ok.ensures.to owned.pages cleared.others.below
    cleared.others.above

pub overflow_add-self-inside : goal.overflow_add-self-inside
overflow_add-self-inside c =
    let count = c.self.invariant.count in
    let limit = c.self.invariant.pages.limit in
    omega (arith, count, limit, c.count_missing-more.ensures.few, c.requires.high)

pub returns-then-self-more-gt-MAX_PAGES-clause-refused : goal.returns-then-self-more-gt-MAX_PAGES-clause-refused
returns-then-self-more-gt-MAX_PAGES-clause-refused c =
    let total = total_after (goal.at.returns-then-self-more-gt-MAX_PAGES-clause-refused c).After-count_missing-more in
    let count = c.self.invariant.count in
    omega (arith, total, count, c.if-self-more-gt-MAX_PAGES.true)

pub returns-then-self-more-gt-MAX_PAGES-clause-grows : goal.returns-then-self-more-gt-MAX_PAGES-clause-grows
returns-then-self-more-gt-MAX_PAGES-clause-grows c = λ own.
    let count = c.self.invariant.count in
    let limit = c.self.invariant.pages.limit in
    c.count_missing-more.ensures.grows (omega (arith, count, limit, c.if-self-more-gt-MAX_PAGES.true))
    (subst (λ (s : SpaceValue). AreOwnIn s c.args.page c.args.count) (sym c.self.view_is) own)

pub returns-in_default-clause-refused : goal.returns-in_default-clause-refused
returns-in_default-clause-refused c =
    let total = total_after (goal.at.returns-in_default-clause-refused c).After-count_missing-more in
    let count = c.self.invariant.count in
    omega (arith, total, count, c.if-self-more-gt-MAX_PAGES.false)

pub returns-in_default-own_each-clause-refused : goal.returns-in_default-own_each-clause-refused
returns-in_default-own_each-clause-refused c =
    let total = total_after (goal.at.returns-in_default-own_each-clause-refused c).After-count_missing-more in
    let count = c.self.invariant.count in
    omega (arith, total, count, c.if-self-more-gt-MAX_PAGES.false)

pub returns-in_default-clause-grows : goal.returns-in_default-clause-grows
returns-in_default-clause-grows c =
    λ own. c.in_default.ensures.grows (subst (λ (s : SpaceValue). AreOwnIn s c.args.page c.args.count) (sym c.self.view_is) own)

pub own_each-requires : goal.own_each-requires
own_each-requires c = λ n listed.
    let to = c.in-Ok.ensures.to n (ap (λ (xs : List ℕ). is_listed xs n) (sym c.as_slice.ensures.value) ∙ listed) in
    omega (arith, to, c.requires.high)

pub returns-in_default-own_each-clause-grows : goal.returns-in_default-own_each-clause-grows
returns-in_default-own_each-clause-grows c = λ own. c.in_default-own_each.ensures.grows (λ n listed.
    let e = ap (λ (xs : List ℕ). is_listed xs n) (sym c.as_slice.ensures.value) ∙ listed in
    subst (λ (s : SpaceValue). IsOwn (contents_of s) n) (sym c.self.view_is) (own n (c.in-Ok.ensures.from n e) (c.in-Ok.ensures.to n e)))

pub clear_pages-requires-clause-own : goal.clear_pages-requires-clause-own
clear_pages-requires-clause-own c =
    all_own_in c.self.inside.tables c.own_each.new.self c.in-Ok.numbers.items c.args.page c.args.count
    (owned_after (goal.at.clear_pages-requires-clause-own c).In-Ok-own_each) c.in-Ok.ensures.others

pub invariant_of-self-2 : goal.invariant_of-self-2
invariant_of-self-2 c =
    let pages = (contents_of c.self.inside.tables).pages in
    let after = (contents_of c.clear_pages.new.tables).pages in
    let cleared = c.clear_pages.ensures in
    let owned = owned_after (goal.at.invariant_of-self-2 c).In-Ok-own_each in
    let others = unmapped_after (goal.at.invariant_of-self-2 c).After-clear_pages owned in
    let total : page_count (memory_of c.clear_pages.new.tables) ≡ page_count (memory_of c.self.inside.tables)
    + c.count_missing-more.result =
    ap page_count (mapped_in pages after c.args.permissions c.args.page c.args.count cleared.cleared others)
    ∙ page_count_mapped pages c.args.permissions c.args.page c.args.count c.requires.high
    ∙ ap (λ (k : ℕ). page_count (memory_of c.self.inside.tables) + k) (sym c.count_missing-more.ensures.count) in
    let count = c.self.invariant.count in
    is_space c.self.inside.tables c.clear_pages.new.tables c.self.inside.mapped _ c.self.invariant
    (mapped_each pages after c.args.permissions c.args.page c.args.count c.self.invariant.pages.each c.requires.low c.requires.high
    c.requires.readable cleared.cleared others)
    (cleared.others.kept ∙ owned.kept) (omega (arith, total, count)) (omega (arith, c.if-self-more-gt-MAX_PAGES.false))

pub returns-clause-mapped : goal.returns-clause-mapped
returns-clause-mapped c =
    let pages = (contents_of c.self.inside.tables).pages in
    let after = (contents_of c.clear_pages.new.tables).pages in
    let cleared = c.clear_pages.ensures in
    let owned = owned_after (goal.at.returns-clause-mapped c).In-Ok-own_each in
    let others = unmapped_after (goal.at.returns-clause-mapped c).After-clear_pages owned in
    record {
      ok = mapped_in pages after c.args.permissions c.args.page c.args.count cleared.cleared others
          ∙ ap (λ (s : SpaceValue). mapped (c.args.page * page_bytes) (c.args.count * page_bytes) c.args.permissions (memory_of s))
          c.self.view_is;
      err = tt;
      snapshots = snapshots_stay c.self.inside.tables c.clear_pages.new.tables _ (cleared.others.kept ∙ owned.kept) c.self.view_is;
    }

pub returns-in_default-own_each-clause-mapped : goal.returns-in_default-own_each-clause-mapped
returns-in_default-own_each-clause-mapped c = stays _ _ _ _ (c.in_default-own_each.ensures.err ∙ c.self.view_is)

pub returns-clause-live : goal.returns-clause-live
returns-clause-live c =
    let owned = owned_after (goal.at.returns-clause-live c).In-Ok-own_each in
    let adds = listed_adds c.self.inside.tables c.in-Ok.numbers.items c.args.page c.args.count c.in-Ok.ensures.from c.in-Ok.ensures.to
    c.in-Ok.ensures.others c.requires.high in
    subst (λ (s : SpaceValue). live_of c.clear_pages.new.tables ≡ live_of s + added_in s c.args.page c.args.count) c.self.view_is
    (c.clear_pages.ensures.live ∙ owned.live ∙ ap (λ (k : ℕ). live_of c.self.inside.tables + k) adds)
