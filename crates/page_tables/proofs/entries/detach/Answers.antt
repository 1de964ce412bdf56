use Rattle.std.proofs.Common.{◌∙◌, sym, ap}
use Rattle.page_tables.specs.declared.table.Entry.{Entry}
use Rattle.page_tables.proofs.Tables.{mapped_leaf}
use Rattle.page_tables.proofs.Values.{not_false}
use Rattle.page_tables.proofs.entries.detach.Goals as goal

pub set-requires : goal.set-requires
set-requires c =
    mapped_leaf c.args.table.now c.args.number
    (ap (λ (e : Entry). e.mapped) (sym c.entry-entry.ensures) ∙ not_false c.entry-entry.result.mapped c.if-not-entry.false)
