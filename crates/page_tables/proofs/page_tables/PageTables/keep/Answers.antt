use Rattle.std.proofs.Common.{◌<◌, ◌-◌, ◌^◌, sym, refl, subst, arith, length, Option, List}
use Rattle.page_tables.specs.declared.table.Table.{Table}
use Rattle.slab.specs.Slab.{get}
use Rattle.page_tables.specs.Table.{entry_at}
use Rattle.page_tables.specs.Sharing.{AreShared}
use Rattle.page_tables.specs.Changes.{IsKept}
use Rattle.page_tables.proofs.Values.{stand, carried}
use Rattle.page_tables.proofs.KeptTables.{small, kept_shared, kept_contents}
use Rattle.page_tables.proofs.page_tables.PageTables.keep.Goals as goal

pub raise_all-requires-clause-small : goal.raise_all-requires-clause-small
raise_all-requires-clause-small c =
    small (get c.self.inside.pool) (entry_at c.self.inside.table) c.self.inside.kept.items c.self.invariant
    (omega (arith, c.len.ensures, c.self.inside.kept.ok, c.if-len-ge4294967293.false))

pub invariant_of-self : goal.invariant_of-self
invariant_of-self c =
    subst (λ (ts : List (Option Table)). AreShared (get c.self.inside.pool) (entry_at c.self.inside.table) ts)
    (sym c.in_err-store.ensures.err) c.self.invariant

pub invariant_of-self-2 : goal.invariant_of-self-2
invariant_of-self-2 c =
    kept_shared c.self.inside.pool c.raise_all.new.pool c.self.inside.table c.in_ok-copy.copy c.self.inside.kept.items
    c.store.new.kept.items c.free_number-number.result c.self.invariant c.free_number-number.ensures.free c.in_ok-store.ensures.stored
    c.in_ok-copy.ensures c.raise_all.ensures.pages
    (omega (arith, c.store.ensures.len, c.len.ensures, c.self.inside.kept.ok, c.if-len-ge4294967293.false))

pub returns-clause-kept : goal.returns-clause-kept
returns-clause-kept c =
    let few : length c.store.new.kept.items < 2 ^ 32 - 1 =
    omega (arith, c.store.ensures.len, c.len.ensures, c.self.inside.kept.ok, c.if-len-ge4294967293.false) in
    let shared = kept_shared c.self.inside.pool c.raise_all.new.pool c.self.inside.table c.in_ok-copy.copy c.self.inside.kept.items
    c.store.new.kept.items c.free_number-number.result c.self.invariant c.free_number-number.ensures.free c.in_ok-store.ensures.stored
    c.in_ok-copy.ensures c.raise_all.ensures.pages few in
    carried (stand c.self.inside.pool _ _ _ c.self.invariant c.self.view_is)
    (stand c.raise_all.new.pool c.self.inside.table c.store.new.kept.items _ shared refl) (IsKept c.free_number-number.result)
    (kept_contents c.self.inside.pool c.raise_all.new.pool c.self.inside.table c.in_ok-copy.copy c.self.inside.kept.items
    c.store.new.kept.items c.free_number-number.result c.self.invariant c.free_number-number.ensures.free c.in_ok-store.ensures.stored
    c.in_ok-copy.ensures c.raise_all.ensures.pages c.raise_all.ensures.len)
