use Rattle.std.proofs.Common.{sym}
use Rattle.page_tables.proofs.Values.{stand, shown_page, shown_none, not_true, not_false}
use Rattle.page_tables.proofs.page_tables.PageTables.page.Goals as goal

pub returns-then-not-entry : goal.returns-then-not-entry
returns-then-not-entry c =
    let s = stand c.self.inside.pool _ _ _ c.self.invariant c.self.view_is in
    sym (shown_none s c.args.number c.entry-entry.result c.entry-entry.ensures (not_true c.entry-entry.result.mapped c.if-not-entry.true))

pub returns : goal.returns
returns c =
    let s = stand c.self.inside.pool _ _ _ c.self.invariant c.self.view_is in
    shown_page s c.args.number c.entry-entry.result c.index-page.result.now c.deref.result.now c.entry-entry.ensures
    (not_false c.entry-entry.result.mapped c.if-not-entry.false) c.index-page.ensures c.deref.ensures
