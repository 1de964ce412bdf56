-- What contracts see of a verified recording.
use Rattle.std.specs.Prelude.{◌≡◌, ◌⊎◌, ◌↔◌, ℕ, ◌+◌, ◌≤◌, List, [], ◌∷◌, ◌++◌, length, take, Option, Some, None, Contains}
use Rattle.rrv_model.specs.declared.record.CheckpointRest.{CheckpointRest}
use Rattle.rrv_model.specs.declared.record.Frame.{Frame}
use Rattle.rrv_model.specs.declared.record.Part.{Part}
use Rattle.rrv_model.specs.declared.record.Item.{Item}
use Rattle.rrv_model.specs.declared.record.Item.TheVariants as items
use Rattle.rrv_model.specs.declared.record.Opening.{Opening}
use Rattle.rrv_model.specs.declared.record.Record.{Record}
use Rattle.rrv_model.specs.Recording.{EndsIn, IsRecording, frames_of, items_of}
use Rattle.rrv_model.specs.State.{State}
use Rattle.rrv_model.specs.StateAt.{StateAt, total}

-- A verified recording: its opening, its frames, the places of its complete checkpoints, and how many records it has. The
-- place of a checkpoint is the number of instructions before it.
pub record VerifiedValue : Type 0 where
  pub opening : Opening
  pub frames : List Frame
  pub checkpoints : List ℕ
  pub len : ℕ

-- the place of the checkpoint that a part completes, where it does
abbrev pub completed : Option CheckpointRest → ℕ → List ℕ
completed None place = []
completed (Some rest) place = place ∷ []

-- the places of the complete checkpoints among items that begin at this one
abbrev pub checkpoints_of : ℕ → List Item → List ℕ
checkpoints_of place [] = []
checkpoints_of place (items.Opening o ∷ rest) = checkpoints_of place rest
checkpoints_of place (items.Frame f ∷ rest) = checkpoints_of (place + f.count) rest
checkpoints_of place (items.Part p ∷ rest) = completed p.rest place ++ checkpoints_of place rest

-- it is that of just these records, which are a recording
pub record Keeps (verified : VerifiedValue) (records : List Record) : Type 0 where
  pub recording : IsRecording records
  pub opening : take 1 (items_of records) ≡ items.Opening verified.opening ∷ []
  pub frames : verified.frames ≡ frames_of (items_of records)
  pub checkpoints : verified.checkpoints ≡ checkpoints_of 0 (items_of records)
  pub len : verified.len ≡ length records

-- it is that of some recording
abbrev pub IsVerified : VerifiedValue → Type 0
IsVerified verified = (records : List Record) × Keeps verified records

-- what ran for a guest at t is no more than from the last checkpoint at or before t, or from the start
pub record RanFromLast (verified : VerifiedValue) (t ran : ℕ) : Type 0 where
  pub from_start : ran ≤ t
  pub from_last : (place : ℕ) → Contains verified.checkpoints place → place ≤ t → ran + place ≤ t

-- the place of the last checkpoint at or before t, or 0 where there is none
pub record IsLastCheckpoint (verified : VerifiedValue) (t place : ℕ) : Type 0 where
  pub there : Contains verified.checkpoints place ⊎ (place ≡ 0)
  pub low : place ≤ t
  pub last : (other : ℕ) → Contains verified.checkpoints other → other ≤ t → other ≤ place

-- ---- laws

-- among the items is the last part of a checkpoint, behind frames of so many instructions
pub record HasCheckpointAt (its : List Item) (place : ℕ) : Type 0 where
  pub before : List Item
  pub part : Part
  pub after : List Item
  pub its_are : its ≡ before ++ items.Part part ∷ after
  pub rest : CheckpointRest
  pub is_last : part.rest ≡ Some rest
  pub place_is : place ≡ total (frames_of before)

-- the places are just those of such parts
abbrev pub CheckpointsAreLastParts : Type 0
CheckpointsAreLastParts = (its : List Item) (place : ℕ) →
    Contains (checkpoints_of 0 its) place ↔ HasCheckpointAt its place

-- the state at the total is the one that the records end in
abbrev pub TotalIsTheEnd : Type 0
TotalIsTheEnd = (verified : VerifiedValue) (records : List Record) (s : State) → Keeps verified records →
    StateAt verified.opening verified.frames (total verified.frames) s → EndsIn (items_of records) s
