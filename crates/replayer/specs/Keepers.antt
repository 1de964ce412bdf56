-- What is kept of records as they come.
use Rattle.std.specs.Prelude.{◌≡◌, ℕ, ◌≤◌, List, [], ◌∷◌, ◌++◌, length, take, drop}
use Rattle.rrv_model.specs.declared.limits.TheConstants.{MAX_QUANTUM}
use Rattle.rrv_model.specs.declared.record.Item.{Item}
use Rattle.rrv_model.specs.declared.record.Item.TheVariants as items
use Rattle.rrv_model.specs.declared.record.Part.{Part}
use Rattle.rrv_model.specs.declared.record.Record.{Record}
use Rattle.rrv_model.specs.Recording.{items_of, row_after}
use Rattle.replayer.specs.declared.recording.Keeper.{Keeper}
use Rattle.replayer.specs.Kept.{KeepsAll, new_marks}

-- just so much of these records is kept
pub record IsKept (keeper : Keeper) (records : List Record) : Type 0 where
  pub opening : take 1 (items_of records) ≡ items.Opening keeper.opening ∷ []
  pub keeps : KeepsAll (drop 1 (items_of records)) keeper.row.items keeper.frames.items keeper.marks.items keeper.steps
  pub len : keeper.len ≡ length records

-- an item that may come behind an opening: no other one, and no frame of more instructions than a slice may have
abbrev pub MayCome : Item → Type 0
MayCome (items.Opening o) = ⊥
MayCome (items.Frame f) = f.count ≤ MAX_QUANTUM
MayCome (items.Part p) = Unit {0}

-- a record may come behind so many
pub record ComesNext (len : ℕ) (r : Record) : Type 0 where
  pub index : r.index ≡ len
  pub item : MayCome r.item

-- a part is kept in the row, and the row where the part is the last of a checkpoint
pub record KeepsPart (p : Part) (old new : Keeper) : Type 0 where
  pub opening : new.opening ≡ old.opening
  pub frames : new.frames.items ≡ old.frames.items
  pub marks : new.marks.items ≡ old.marks.items
      ++ new_marks p.rest (record { frames = length old.frames.items; at = old.steps; parts = old.row.items ++ p ∷ [] })
  pub row : new.row.items ≡ row_after p.rest (old.row.items ++ p ∷ [])
  pub steps : new.steps ≡ old.steps
  pub len : new.len ≡ old.len
