use Rattle.std.proofs.Common.{◌∙◌, sym, ap, Some, List, ℕ}
use Rattle.slab.specs.Slab.{get}
use Rattle.page_tables.specs.declared.table.Entry.{Entry}
use Rattle.page_tables.specs.Table.{entry_at}
use Rattle.page_tables.specs.Sharing.{value_in}
use Rattle.page_tables.proofs.Values.{page_of, page_mapped, page_unmapped, not_true, not_false}
use Rattle.page_tables.proofs.page_tables.view_in.Goals as goal

pub returns-then-not-entry : goal.returns-then-not-entry
returns-then-not-entry c =
    sym (page_unmapped (get c.args.pool.now) (entry_at c.args.table.now) c.args.number
    (ap (λ (d : Entry). d.mapped) (sym c.entry-entry.ensures) ∙ not_true c.entry-entry.result.mapped c.if-not-entry.true))

pub returns : goal.returns
returns c =
    ap (λ (bs : List ℕ). Some (page_of c.entry-entry.result bs)) c.deref.ensures
    ∙ ap (λ (d : Entry). Some (value_in d c.index-page.result.now)) c.entry-entry.ensures
    ∙ sym (page_mapped (get c.args.pool.now) (entry_at c.args.table.now) c.args.number c.index-page.result.now
    (ap (λ (d : Entry). d.mapped) (sym c.entry-entry.ensures) ∙ not_false c.entry-entry.result.mapped c.if-not-entry.false)
    (ap (λ (d : Entry). get c.args.pool.now d.key) (sym c.entry-entry.ensures) ∙ c.index-page.ensures))
