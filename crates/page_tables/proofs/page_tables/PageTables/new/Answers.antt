use Rattle.std.proofs.Common.{ap, List, Option}
use Rattle.std.specs.Option.{option_map}
use Rattle.slab.specs.Slab.{get}
use Rattle.page_tables.specs.declared.table.Entry.{Entry}
use Rattle.page_tables.specs.declared.table.Table.{Table}
use Rattle.page_tables.specs.declared.pool.Page.{Page}
use Rattle.page_tables.specs.Table.{entry_at}
use Rattle.page_tables.specs.Contents.{at_number, gathered}
use Rattle.page_tables.specs.Sharing.{pages_in, counts_in, kept_in, page_in, value_in}
use Rattle.page_tables.proofs.Values.{gathered_none}
use Rattle.page_tables.proofs.page_tables.PageTables.new.Goals as goal

pub returns-clause-pages : goal.returns-clause-pages
returns-clause-pages c =
    gathered_none 0x80000 (pages_in (get c.new.result) (entry_at c.new-2.result))
    (λ n. ap (λ (e : Entry). option_map (value_in e) (page_in (get c.new.result) e)) (c.new-2.ensures n))

pub returns-clause-counts : goal.returns-clause-counts
returns-clause-counts c =
    gathered_none 0x80000 (counts_in (get c.new.result) (entry_at c.new-2.result))
    (λ n. ap (λ (e : Entry). option_map (λ (p : Page). p.count) (page_in (get c.new.result) e)) (c.new-2.ensures n))

pub returns-clause-kept : goal.returns-clause-kept
returns-clause-kept c = λ i.
    ap (option_map at_number)
    (gathered_none 4294967296 (λ j. option_map (gathered 0x80000) (kept_in (get c.new.result) c.new-3.result.items j))
    (λ j. ap (λ (ts : List (Option Table)). option_map (gathered 0x80000) (kept_in (get c.new.result) ts j)) c.new-3.ensures.items) i)
