use Rattle.std.proofs.Common.{◌≡◌, ◌∙◌, sym, ap, subst, Some, IsSome}
use Rattle.std.proofs.lemmas.Option.{same_Some}
use Rattle.slab.specs.Slab.{get}
use Rattle.page_tables.specs.declared.table.Entry.{Entry}
use Rattle.page_tables.specs.Table.{entry_at}
use Rattle.page_tables.specs.Contents.{contents_of}
use Rattle.page_tables.specs.Changes.{IsOwn}
use Rattle.page_tables.proofs.Values.{stand, present, shown_page, page_of}
use Rattle.page_tables.proofs.PlacedPages.{live_mapped, live_count, unchanged, placed_again, on_err}
use Rattle.page_tables.proofs.page_tables.PageTables.unshare.Goals as goal
use Rattle.page_tables.proofs.page_tables.PageTables.unshare.Goals.{After-index-page}

pub index-page-requires : goal.index-page-requires
index-page-requires c =
    let s = stand c.self.inside.pool _ _ _ c.self.invariant c.self.view_is in
    subst (λ (d : Entry). IsSome (get c.self.inside.pool d.key)) (sym c.entry-entry.ensures)
    (present (get c.self.inside.pool) (entry_at c.self.inside.table) c.args.number s.shared.current
    (live_mapped s c.args.number c.requires))

-- how many tables have the page
counted : (c : After-index-page) → (contents_of c.args.self.now).counts c.args.number ≡ Some c.index-page.result.now.count
counted c =
    live_count (stand c.self.inside.pool _ _ _ c.self.invariant c.self.view_is) c.args.number c.requires c.entry-entry.result
    c.entry-entry.ensures c.index-page.result.now c.index-page.ensures

not_own : (c : After-index-page) → (c.index-page.result.now.count ≡ 1 → ⊥) → IsOwn (contents_of c.args.self.now) c.args.number → ⊥
not_own c apart own = apart (same_Some _ _ (sym (counted c) ∙ own))

pub returns-then-page-eq1-clause-unshared : goal.returns-then-page-eq1-clause-unshared
returns-then-page-eq1-clause-unshared c =
    unchanged c.args.number (contents_of c.args.self.now)
    (counted (goal.at.returns-then-page-eq1-clause-unshared c).After-index-page ∙ ap Some c.if-page-eq1.true)

pub returns-in_err-copy-clause-shared : goal.returns-in_err-copy-clause-shared
returns-in_err-copy-clause-shared c =
    on_err _ _ (not_own (goal.at.returns-in_err-copy-clause-shared c).After-index-page c.if-page-eq1.false)

pub install-requires : goal.install-requires
install-requires c =
    let s = stand c.self.inside.pool _ _ _ c.self.invariant c.self.view_is in
    s.shared.current.low c.args.number (live_mapped s c.args.number c.requires)

pub returns-in_err-install-clause-shared : goal.returns-in_err-install-clause-shared
returns-in_err-install-clause-shared c =
    on_err _ _ (not_own (goal.at.returns-in_err-install-clause-shared c).After-index-page c.if-page-eq1.false)

pub returns-clause-unshared : goal.returns-clause-unshared
returns-clause-unshared c =
    let s = stand c.self.inside.pool _ _ _ c.self.invariant c.self.view_is in
    placed_again c.args.number (page_of c.entry-entry.result c.in_ok-copy.copy.value) (contents_of c.args.self.now) _
    (shown_page s c.args.number c.entry-entry.result c.index-page.result.now c.in_ok-copy.copy.value c.entry-entry.ensures
    (ap (λ (d : Entry). d.mapped) c.entry-entry.ensures ∙ live_mapped s c.args.number c.requires) c.index-page.ensures
    (c.in_ok-copy.ensures ∙ c.deref.ensures))
    c.in_ok-install.ensures.placed
