use Rattle.std.proofs.Common.{◌∙◌, List, ap, sym, arith}
use Rattle.std.specs.List.{slice_get}
use Rattle.std.specs.Option.{option_copied}
use Rattle.page_tables.specs.declared.table.TheConstants.{NO_LEAF}
use Rattle.page_tables.specs.declared.table.Entry.{Entry}
use Rattle.page_tables.proofs.Tables.{past_rows, item_at}
use Rattle.page_tables.proofs.table.Table.leaf.Goals as goal

pub returns-in_err-place : goal.returns-in_err-place
returns-in_err-place c =
    let t = c.args.self.now in
    let past = c.in_err-place.ensures.lookup in
    ap option_copied c.from_residual.ensures ∙ sym (past_rows t c.args.number (omega (arith, t.rows, past.3)))

pub returns : goal.returns
returns c =
    let t = c.args.self.now in
    let place = c.in_ok-place.field-0.now in
    let found = c.in_ok-place.ensures.lookup in
    item_at c.deref.result.now place c.get-2.result c.get-2.ensures.lookup
    ∙ ap (λ (ls : List (List Entry)). slice_get ls place) c.deref.ensures.value ∙ ap (slice_get t.leaves.items) (found.3.1 NO_LEAF)
