use Rattle.std.proofs.Common.{◌≡◌, ◌∙◌, ℕ, ◌/◌, set, refl, sym, ap, arith, get_or, Some, true}
use Rattle.std.proofs.lemmas.Option.{slice_get-get_or}
use Rattle.page_tables.specs.declared.table.TheConstants.{NO_LEAF}
use Rattle.page_tables.specs.declared.table.Table.{Table}
use Rattle.page_tables.specs.Directory.{place_at}
use Rattle.page_tables.specs.Table.{leaf_in, has_leaf}
use Rattle.page_tables.proofs.Tables.{row_within, within, set_here, set_others, set_room, same_in}
use Rattle.page_tables.proofs.table.Table.set.Goals as goal

-- the place that is read is the directory's
place_is : (t : Table) (n : ℕ) → has_leaf t n ≡ true → get_or t.directory (n / 1024) 0 ≡ place_at t.directory (n / 1024)
place_is t n room = same_in t.directory (n / 1024) 0 NO_LEAF (omega (arith, t.rows, row_within t n room))

pub bounds-self-number : goal.bounds-self-number
bounds-self-number c = row_within c.args.self.now c.args.number c.requires

pub index_mut-requires : goal.index_mut-requires
index_mut-requires c =
    let t = c.args.self.now in
    omega (arith, place_is t c.args.number c.requires, within t c.args.number c.requires, t.leaves.ok)

pub returns : goal.returns
returns c =
    let t = c.args.self.now in
    let n = c.args.number in
    let old = c.index_mut.result.now in
    let new = c.put_entry.new.entries in
    let place = place_is t n c.requires in
    let written = ap (λ (i : ℕ). set t.leaves.items i new) place in
    let was : leaf_in t.directory t.leaves.items n ≡ Some old =
    slice_get-get_or t.leaves.items (place_at t.directory (n / 1024)) old (within t n c.requires)
    ∙ ap Some (ap (λ (i : ℕ). get_or t.leaves.items i old) (sym place) ∙ sym c.index_mut.ensures.value) in
    record {
      here = set_here t _ n old new c.requires refl written c.args.entry c.put_entry.ensures.put c.put_entry.ensures.full;
      others = set_others t _ n old new c.requires refl written c.args.entry c.put_entry.ensures.put was;
      leaves = set_room t _ n old new c.requires refl written;
    }
