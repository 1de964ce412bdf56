use Rattle.std.proofs.Common.{ℕ, List, ◌≡◌, false, sym, ap, ◌∙◌}
use Rattle.slab.specs.Slab.{get}
use Rattle.page_tables.specs.declared.table.Entry.{Entry}
use Rattle.page_tables.specs.Table.{entry_at}
use Rattle.page_tables.specs.Contents.{PageValue}
use Rattle.page_tables.specs.Changes.{page_or_zeros}
use Rattle.page_tables.proofs.Values.{page_unmapped, not_true}
use Rattle.page_tables.proofs.new_pages.copy_page.Goals as goal

abbrev nothing : List ℕ → PageValue
nothing bytes = record { permissions = record { read = false; write = false; execute = false }; bytes = bytes }

pub returns-then-not-entry-clause-value : goal.returns-then-not-entry-clause-value
returns-then-not-entry-clause-value c =
    let unmapped : (entry_at c.args.table.now c.args.number).mapped ≡ false =
    ap (λ (e : Entry). e.mapped) (sym c.entry-entry.ensures) ∙ not_true c.entry-entry.result.mapped c.if-not-entry.true in
    ap nothing c.in_ok-bytes.ensures
    ∙ sym (ap page_or_zeros (page_unmapped (get c.args.pool.now) (entry_at c.args.table.now) c.args.number unmapped))
