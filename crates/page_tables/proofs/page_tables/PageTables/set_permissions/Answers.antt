use Rattle.std.proofs.Common.{◌∙◌, sym, ap, refl}
use Rattle.page_tables.specs.declared.table.Entry.{Entry}
use Rattle.page_tables.specs.Contents.{contents_of}
use Rattle.page_tables.specs.Changes.{IsProtected}
use Rattle.page_tables.proofs.Values.{stand, carried, shown_none, not_true, not_false}
use Rattle.page_tables.proofs.Tables.{mapped_leaf}
use Rattle.page_tables.proofs.PlacedPages.{protected_shared, protected_contents, none_protected}
use Rattle.page_tables.proofs.page_tables.PageTables.set_permissions.Goals as goal

pub returns-then-not-entry : goal.returns-then-not-entry
returns-then-not-entry c =
    let s = stand c.self.inside.pool _ _ _ c.self.invariant c.self.view_is in
    none_protected c.args.number c.args.permissions (contents_of c.args.self.now)
    (shown_none s c.args.number c.entry-entry.result c.entry-entry.ensures (not_true c.entry-entry.result.mapped c.if-not-entry.true))

pub set-requires : goal.set-requires
set-requires c =
    mapped_leaf c.self.inside.table c.args.number
    (ap (λ (e : Entry). e.mapped) (sym c.entry-entry.ensures) ∙ (not_false c.entry-entry.result.mapped c.if-not-entry.false))

pub invariant_of-self : goal.invariant_of-self
invariant_of-self c =
    protected_shared c.self.inside.pool c.self.invariant
    (ap (λ (e : Entry). e.mapped) (sym c.entry-entry.ensures) ∙ not_false c.entry-entry.result.mapped c.if-not-entry.false)
    (ap (λ (e : Entry). e.key) (sym c.entry-entry.ensures)) c.set.ensures

pub returns : goal.returns
returns c =
    let s = stand c.self.inside.pool _ _ _ c.self.invariant c.self.view_is in
    let mapped = ap (λ (e : Entry). e.mapped) (sym c.entry-entry.ensures) ∙ not_false c.entry-entry.result.mapped c.if-not-entry.false in
    let key = ap (λ (e : Entry). e.key) (sym c.entry-entry.ensures) in
    carried s (stand c.self.inside.pool _ _ _ (protected_shared c.self.inside.pool c.self.invariant mapped key c.set.ensures) refl)
    (IsProtected c.args.number c.args.permissions) (protected_contents c.self.inside.pool c.self.invariant mapped key c.set.ensures)
