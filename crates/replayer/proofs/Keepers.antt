-- What is kept of one record more.
use Rattle.std.proofs.Common.{◌≡◌, ◌≤◌, ◌+◌, List, [], ◌∷◌, ◌++◌, length, take, arith}
use Rattle.std.proofs.lemmas.List.{length-append}
use Rattle.rrv_model.specs.declared.record.Item.{Item}
use Rattle.rrv_model.specs.declared.record.Item.TheVariants as items
use Rattle.rrv_model.specs.declared.record.Record.{Record}
use Rattle.rrv_model.specs.Recording.{items_of}
use Rattle.replayer.specs.declared.recording.Keeper.{Keeper}
use Rattle.replayer.specs.Keepers.{IsKept}
use Rattle.replayer.specs.Kept.{KeepsOn, RowIs}
use Rattle.replayer.proofs.Sourced.{keeps_given}

opening_more : (records : List Record) (r : Record) (it : Item) → take 1 (items_of records) ≡ it ∷ [] →
    take 1 (items_of (records ++ r ∷ [])) ≡ it ∷ []
opening_more [] r it h = absurd cc
opening_more (q ∷ records) r it h = h

some_read : (records : List Record) (it : Item) → take 1 (items_of records) ≡ it ∷ [] → 1 ≤ length records
some_read [] it h = absurd cc
some_read (q ∷ records) it h = omega arith

pub kept_next : (old new : Keeper) (records : List Record) (r : Record) → IsKept old records → new.opening ≡ old.opening →
    KeepsOn r.item old.row.items old.frames.items old.marks.items old.steps new.frames.items new.marks.items new.steps →
    RowIs r.item old.row.items new.row.items → new.len ≡ old.len + 1 → IsKept new (records ++ r ∷ [])
kept_next old new records r h opening on row len = record {
  opening = opening_more records r (items.Opening new.opening) (rw opening h.opening);
  keeps = keeps_given records r old.row.items new.row.items old.frames.items new.frames.items old.marks.items new.marks.items old.steps
      new.steps (some_read records (items.Opening old.opening) h.opening) h.keeps on row;
  len = omega (arith, len, h.len, length-append records (r ∷ []));
}
