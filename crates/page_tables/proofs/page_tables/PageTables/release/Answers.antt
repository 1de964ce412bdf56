use Rattle.std.proofs.Common.{refl}
use Rattle.slab.specs.Slab.{get}
use Rattle.page_tables.specs.Table.{entry_at}
use Rattle.page_tables.specs.Changes.{IsReleased}
use Rattle.page_tables.proofs.Values.{stand, carried}
use Rattle.page_tables.proofs.KeptTables.{positive, released_shared, released_contents}
use Rattle.page_tables.proofs.page_tables.PageTables.release.Goals as goal

pub lower_all-requires-clause-some : goal.lower_all-requires-clause-some
lower_all-requires-clause-some c =
    positive (get c.self.inside.pool) (entry_at c.self.inside.table) c.self.inside.kept.items c.self.invariant

pub invariant_of-self : goal.invariant_of-self
invariant_of-self c =
    released_shared c.self.inside.pool c.lower_all.new.pool c.self.inside.table c.take-table.result c.self.inside.kept.items
    c.take-table.new.kept.items c.args.number c.self.invariant c.take-table.ensures.was c.take-table.ensures.taken c.lower_all.ensures.pages
    c.take-table.ensures.len

pub returns : goal.returns
returns c =
    let shared = released_shared c.self.inside.pool c.lower_all.new.pool c.self.inside.table c.take-table.result c.self.inside.kept.items
    c.take-table.new.kept.items c.args.number c.self.invariant c.take-table.ensures.was c.take-table.ensures.taken
    c.lower_all.ensures.pages c.take-table.ensures.len in
    carried (stand c.self.inside.pool _ _ _ c.self.invariant c.self.view_is)
    (stand c.lower_all.new.pool c.self.inside.table c.take-table.new.kept.items _ shared refl) (IsReleased c.args.number)
    (released_contents c.self.inside.pool c.lower_all.new.pool c.self.inside.table c.take-table.result c.self.inside.kept.items
    c.take-table.new.kept.items c.args.number c.self.invariant c.take-table.ensures.was c.take-table.ensures.taken
    c.lower_all.ensures.pages c.lower_all.ensures.len)
