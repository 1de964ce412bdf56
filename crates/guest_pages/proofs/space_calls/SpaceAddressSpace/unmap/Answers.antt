use Rattle.std.proofs.Common.{◌≡◌, ◌+◌, ◌∙◌, ◌*◌, ap, arith, subst}
use Rattle.rrv_model.specs.Memory.{unmapped, page_bytes}
use Rattle.page_tables.specs.Contents.{contents_of}
use Rattle.guest_pages.specs.Live.{freed_in, live_of}
use Rattle.guest_pages.specs.Space.{SpaceValue, memory_of}
use Rattle.guest_pages.proofs.Ranges.{unmapped_in, unmapped_each}
use Rattle.guest_pages.proofs.Spaces.{is_space}
use Rattle.guest_pages.proofs.Stays.{snapshots_stay}
use Rattle.guest_pages.proofs.space_calls.SpaceAddressSpace.unmap.Goals as goal

pub invariant_of-self : goal.invariant_of-self
invariant_of-self c =
    let r = c.remove_range-gone.ensures in
    let count = c.self.invariant.count in
    let limit = c.self.invariant.pages.limit in
    is_space c.self.inside.tables c.remove_range-gone.new.tables c.self.inside.mapped _ c.self.invariant
    (unmapped_each (contents_of c.self.inside.tables).pages (contents_of c.remove_range-gone.new.tables).pages c.args.page c.args.count
    c.self.invariant.pages.each r.removed r.others.below r.others.above)
    r.others.kept (omega (arith, r.count, count)) (omega (arith, r.count, count, limit))

pub returns-clause-unmapped : goal.returns-clause-unmapped
returns-clause-unmapped c =
    let r = c.remove_range-gone.ensures in
    record {
      memory = unmapped_in (contents_of c.self.inside.tables).pages (contents_of c.remove_range-gone.new.tables).pages c.args.page
          c.args.count r.removed r.others.below r.others.above
          ∙ ap (λ (s : SpaceValue). unmapped (c.args.page * page_bytes) (c.args.count * page_bytes) (memory_of s)) c.self.view_is;
      snapshots = snapshots_stay c.self.inside.tables c.remove_range-gone.new.tables _ r.others.kept c.self.view_is;
    }

pub returns-clause-live : goal.returns-clause-live
returns-clause-live c =
    subst (λ (s : SpaceValue). live_of c.remove_range-gone.new.tables + freed_in s c.args.page c.args.count ≡ live_of s) c.self.view_is
    c.remove_range-gone.ensures.live
