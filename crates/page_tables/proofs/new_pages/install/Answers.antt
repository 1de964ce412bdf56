use Rattle.std.proofs.Common.{refl}
use Rattle.slab.specs.Slab.{get}
use Rattle.page_tables.specs.Table.{entry_at}
use Rattle.page_tables.specs.NewPages.{new_value}
use Rattle.page_tables.specs.Sharing.{AreShared}
use Rattle.page_tables.proofs.PlacedPages.{removed_shared, removed_contents, placed_shared, attached_contents, placed}
use Rattle.page_tables.proofs.new_pages.install.Goals as goal
use Rattle.page_tables.proofs.new_pages.install.Goals.{After-attach}

-- the pages are shared without the one that was there
gone : (c : After-attach) → AreShared (get c.detach.new.pool) (entry_at c.detach.new.table) c.args.kept.now.items
gone c = removed_shared c.args.pool.now c.detach.new.pool c.args.table.now c.detach.new.table c.args.kept.now.items c.args.page.number
    c.requires.shared c.detach.ensures.gone c.detach.ensures.none c.detach.ensures.others c.detach.ensures.pages

pub returns-clause-shared : goal.returns-clause-shared
returns-clause-shared c =
    let a = c.attach.ensures in
    placed_shared (gone c) c.detach.ensures.gone c.requires.low a.put a.added refl refl refl refl a.filled

pub returns-clause-placed : goal.returns-clause-placed
returns-clause-placed c =
    let d = c.detach.ensures in
    let a = c.attach.ensures in
    placed c.args.page.number (new_value c.args.page) _ _ _
    (removed_contents c.args.pool.now c.detach.new.pool c.args.table.now c.detach.new.table c.args.kept.now.items c.args.page.number
    c.requires.shared d.gone d.none d.others d.pages d.len)
    (attached_contents (gone c) d.gone c.requires.low a.put a.added refl refl refl refl a.filled)
