use Rattle.std.proofs.Common.{refl}
use Rattle.slab.specs.Slab.{get}
use Rattle.page_tables.specs.Table.{entry_at}
use Rattle.page_tables.specs.Changes.{IsRemoved}
use Rattle.page_tables.proofs.Values.{stand, carried}
use Rattle.page_tables.proofs.KeptTables.{positive}
use Rattle.page_tables.proofs.PlacedPages.{removed_shared, removed_contents}
use Rattle.page_tables.proofs.page_tables.PageTables.remove.Goals as goal

pub detach-requires-clause-some : goal.detach-requires-clause-some
detach-requires-clause-some c = positive (get c.self.inside.pool) (entry_at c.self.inside.table) c.self.inside.kept.items c.self.invariant

pub invariant_of-self : goal.invariant_of-self
invariant_of-self c =
    removed_shared c.self.inside.pool c.detach.new.pool c.self.inside.table c.detach.new.table c.self.inside.kept.items c.args.number
    c.self.invariant c.detach.ensures.gone c.detach.ensures.none c.detach.ensures.others c.detach.ensures.pages

pub returns : goal.returns
returns c =
    let shared = removed_shared c.self.inside.pool c.detach.new.pool c.self.inside.table c.detach.new.table c.self.inside.kept.items
    c.args.number c.self.invariant c.detach.ensures.gone c.detach.ensures.none c.detach.ensures.others c.detach.ensures.pages in
    carried (stand c.self.inside.pool _ _ _ c.self.invariant c.self.view_is)
    (stand c.detach.new.pool c.detach.new.table c.self.inside.kept.items _ shared refl) (IsRemoved c.args.number)
    (removed_contents c.self.inside.pool c.detach.new.pool c.self.inside.table c.detach.new.table c.self.inside.kept.items c.args.number
    c.self.invariant c.detach.ensures.gone c.detach.ensures.none c.detach.ensures.others c.detach.ensures.pages c.detach.ensures.len)
