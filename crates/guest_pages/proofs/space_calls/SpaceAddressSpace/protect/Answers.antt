use Rattle.std.proofs.Common.{◌≡◌, ◌∙◌, ◌*◌, ap, sym, subst, ℕ, ◌≤◌}
use Rattle.rrv_model.specs.declared.limits.TheConstants.{MAX_PAGES}
use Rattle.rrv_model.specs.Memory.{protected, page_bytes, page_count}
use Rattle.page_tables.specs.Contents.{contents_of}
use Rattle.guest_pages.specs.Space.{SpaceValue, memory_of}
use Rattle.guest_pages.proofs.Facts.{count_alike}
use Rattle.guest_pages.proofs.Ranges.{protected_in, protected_each, protected_there}
use Rattle.guest_pages.proofs.Spaces.{is_space}
use Rattle.guest_pages.proofs.Stays.{snapshots_stay}
use Rattle.guest_pages.proofs.space_calls.SpaceAddressSpace.protect.Goals as goal

pub invariant_of-self : goal.invariant_of-self
invariant_of-self c =
    let r = c.protect_range.ensures in
    let pages = (contents_of c.self.inside.tables).pages in
    let after = (contents_of c.protect_range.new.tables).pages in
    let same : page_count (memory_of c.protect_range.new.tables) ≡ page_count (memory_of c.self.inside.tables) =
    count_alike pages after
    (protected_there pages after c.args.permissions c.args.page c.args.count r.protected r.others.below r.others.above) in
    is_space c.self.inside.tables c.protect_range.new.tables c.self.inside.mapped c.self.inside.mapped c.self.invariant
    (protected_each pages after c.args.permissions c.args.page c.args.count c.self.invariant.pages.each c.requires.readable r.protected
    r.others.below r.others.above)
    r.others.kept (c.self.invariant.count ∙ sym same)
    (subst (λ (k : ℕ). k ≤ MAX_PAGES) (sym c.self.invariant.count) c.self.invariant.pages.limit)

pub returns-clause-protected : goal.returns-clause-protected
returns-clause-protected c =
    let r = c.protect_range.ensures in
    record {
      ok = protected_in (contents_of c.self.inside.tables).pages (contents_of c.protect_range.new.tables).pages c.args.permissions
          c.args.page c.args.count r.protected r.others.below r.others.above
          ∙ ap (λ (s : SpaceValue). protected (c.args.page * page_bytes) (c.args.count * page_bytes) c.args.permissions (memory_of s))
          c.self.view_is;
      err = tt;
      snapshots = snapshots_stay c.self.inside.tables c.protect_range.new.tables _ r.others.kept c.self.view_is;
    }
