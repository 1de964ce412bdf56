use Rattle.slab.specs.Slab.{get}
use Rattle.page_tables.specs.Table.{entry_at}
use Rattle.page_tables.proofs.Values.{next_some}
use Rattle.page_tables.proofs.page_tables.next_in.Goals as goal

pub returns-then-number-lt524288 : goal.returns-then-number-lt524288
returns-then-number-lt524288 c =
    let n = c.next_or_end-number.result in
    let e = c.next_or_end-number.ensures in
    next_some (get c.args.pool.now) (entry_at c.args.table.now) c.args.least n c.requires (e.from c.if-number-lt524288.true)
    c.if-number-lt524288.true (e.here c.if-number-lt524288.true) e.free
