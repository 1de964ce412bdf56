use Rattle.std.proofs.Common.{◌∙◌, ℕ, ◌≤◌, None, ap, sym, subst}
use Rattle.page_tables.specs.Contents.{contents_of}
use Rattle.guest_pages.specs.Live.{live_of}
use Rattle.guest_pages.specs.Space.{SpaceValue, AreEachPage, snapshots_of}
use Rattle.guest_pages.proofs.Live.{total_is}
use Rattle.guest_pages.proofs.SnapshotPages.{memory_kept, none_kept, still_kept}
use Rattle.guest_pages.proofs.space_calls.SpaceAddressSpace.drop_snapshot.Goals as goal

pub returns-clause-gone : goal.returns-clause-gone
returns-clause-gone c =
    memory_kept (contents_of c.release.new.self).kept c.args.snapshot None
    (ap (contents_of c.release.new.self).kept (sym c.number.ensures) ∙ c.release.ensures.gone)

pub returns-clause-others : goal.returns-clause-others
returns-clause-others c = λ n apart.
    still_kept (contents_of c.self.inside.tables).kept (contents_of c.release.new.self).kept n
    (c.release.ensures.others n (λ e. apart (e ∙ c.number.ensures)))
    ∙ ap (λ (s : SpaceValue). snapshots_of s n) c.self.view_is

pub returns-clause-least : goal.returns-clause-least
returns-clause-least c =
    subst (λ (k : ℕ). k ≤ live_of c.release.new.self)
    (total_is (contents_of c.release.new.self).pages (subst AreEachPage (sym c.release.ensures.pages) c.self.invariant.pages.each))
    c.all_own.ensures.least

pub returns-clause-last : goal.returns-clause-last
returns-clause-last c = λ none.
    c.all_own.ensures.live (λ i. none_kept (contents_of c.release.new.self).kept i (none i))
    ∙ total_is (contents_of c.release.new.self).pages (subst AreEachPage (sym c.release.ensures.pages) c.self.invariant.pages.each)

pub returns-clause-fewer : goal.returns-clause-fewer
returns-clause-fewer c = subst (λ (s : SpaceValue). live_of c.release.new.self ≤ live_of s) c.self.view_is c.release.ensures.live
