use Rattle.std.proofs.Common.{◌≤◌, ◌∙◌, ℕ, ap, subst, sym}
use Rattle.rrv_model.specs.Memory.{page_count}
use Rattle.page_tables.specs.Contents.{contents_of}
use Rattle.guest_pages.specs.Live.{live_of}
use Rattle.guest_pages.specs.Space.{SpaceValue, memory_of, snapshots_of}
use Rattle.guest_pages.proofs.Live.{total_is}
use Rattle.guest_pages.proofs.SnapshotPages.{none_kept}
use Rattle.guest_pages.proofs.address_space.Space.live.Goals as goal

pub returns-clause-least : goal.returns-clause-least
returns-clause-least c =
    let total = total_is (contents_of c.self.inside.tables).pages c.self.invariant.pages.each in
    let least = subst (λ (k : ℕ). k ≤ live_of c.self.inside.tables) total c.all_own.ensures.least in
    subst (λ (k : ℕ). page_count (memory_of c.args.self.now) ≤ k) (sym c.live.ensures)
    (subst (λ (s : SpaceValue). page_count (memory_of s) ≤ live_of c.self.inside.tables) c.self.view_is least)

pub returns-clause-alone : goal.returns-clause-alone
returns-clause-alone c = λ none.
    c.live.ensures
    ∙ c.all_own.ensures.live
    (λ i. none_kept (contents_of c.self.inside.tables).kept i (ap (λ (s : SpaceValue). snapshots_of s i) c.self.view_is ∙ none i))
    ∙ total_is (contents_of c.self.inside.tables).pages c.self.invariant.pages.each
    ∙ ap (λ (s : SpaceValue). page_count (memory_of s)) c.self.view_is
