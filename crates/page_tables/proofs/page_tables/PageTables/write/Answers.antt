use Rattle.std.proofs.Common.{◌∙◌, sym, refl, subst, ap, IsSome}
use Rattle.slab.specs.Slab.{get}
use Rattle.page_tables.specs.declared.table.Entry.{Entry}
use Rattle.page_tables.specs.Table.{entry_at}
use Rattle.page_tables.proofs.Values.{stand, present}
use Rattle.page_tables.proofs.PlacedPages.{counts_seen, own_mapped, write_shared, write_contents}
use Rattle.page_tables.proofs.page_tables.PageTables.write.Goals as goal

pub put_bytes-requires : goal.put_bytes-requires
put_bytes-requires c =
    let s = stand c.self.inside.pool _ _ _ c.self.invariant c.self.view_is in
    record {
      there = subst (λ (d : Entry). IsSome (get c.self.inside.pool d.key)) (sym c.entry-entry.ensures)
          (present (get c.self.inside.pool) (entry_at c.self.inside.table) c.args.number s.shared.current
          (own_mapped s c.args.number c.requires.own));
      fits = c.requires.fits;
    }

pub invariant_of-self : goal.invariant_of-self
invariant_of-self c =
    let s = stand c.self.inside.pool _ _ _ c.self.invariant c.self.view_is in
    write_shared c.self.inside.table c.args.number s.shared (ap (λ (d : Entry). d.key) c.entry-entry.ensures)
    (sym (counts_seen s c.args.number) ∙ c.requires.own)
    c.put_bytes.ensures

pub returns : goal.returns
returns c =
    let s = stand c.self.inside.pool _ _ _ c.self.invariant c.self.view_is in
    write_contents c.self.inside.table c.args.number s.shared (ap (λ (d : Entry). d.key) c.entry-entry.ensures)
    (sym (counts_seen s c.args.number) ∙ c.requires.own)
    c.put_bytes.ensures s.view refl
