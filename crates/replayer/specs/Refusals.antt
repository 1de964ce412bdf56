-- What a refused verification says.
use Rattle.std.specs.Prelude.{◌≡◌, ◌⊎◌, ℕ, ◌+◌, ◌<◌, List, [], ◌∷◌, ◌++◌, length, take, slice_get, IsSomeAnd, IsSome}
use Rattle.rrv_model.specs.declared.record.Part.{Part}
use Rattle.rrv_model.specs.declared.record.Item.{Item}
use Rattle.rrv_model.specs.declared.record.Item.TheVariants as items
use Rattle.rrv_model.specs.declared.record.Opening.{Opening}
use Rattle.rrv_model.specs.declared.record.Record.{Record}
use Rattle.rrv_model.specs.State.{State}
use Rattle.rrv_model.specs.Recording.{IsNumbered, IsRecording, ItemsFollow, PartFits}
use Rattle.rrv_model.specs.FrameStep.{FrameStep}
use Rattle.rrv_model.specs.Checkpoint.{Describes}
use Rattle.rrv_model.specs.declared.record.Frame.{Frame}
use Rattle.serial_sched.specs.Follows.{FrameMeetsNoMemory}
use Rattle.guest_calls.specs.Openings.{RefusesOpening}
use Rattle.guest_calls.specs.declared.fault.OpeningFault.{OpeningFault}
use Rattle.guest_calls.specs.declared.fault.OpeningFault.TheVariants as opening_faults
use Rattle.checkpoint.specs.declared.fault.ApplyFault.{ApplyFault}
use Rattle.checkpoint.specs.declared.fault.ApplyFault.TheVariants as apply_faults
use Rattle.faults.specs.declared.replay.VerifyFault.{VerifyFault}
use Rattle.faults.specs.declared.replay.VerifyFault.TheVariants as faults

-- what is told of an opening from which no guest starts
abbrev pub opening_told : OpeningFault → VerifyFault
opening_told opening_faults.BadOpening = faults.BadOpening
opening_told opening_faults.Memory = faults.Memory

-- memory is taken for a first record only
abbrev pub TakesMemory : Record → Type 0
TakesMemory first =
    (first.index ≡ 0) × ((o : Opening) × (first.item ≡ items.Opening o) × RefusesOpening opening_faults.Memory o)

abbrev pub RefusesFirst : VerifyFault → Record → Type 0
RefusesFirst faults.BadOpening first = IsRecording (first ∷ []) → ⊥
RefusesFirst faults.Memory first = TakesMemory first
RefusesFirst (faults.Mismatch index) first = ⊥
RefusesFirst (faults.BadCheckpoint index) first = ⊥
RefusesFirst (faults.Unreadable index) first = ⊥

-- what is told of a checkpoint that isn't put, of which the last part is the record of this index
abbrev pub put_told : ℕ → ApplyFault → VerifyFault
put_told index apply_faults.BadPart = faults.BadCheckpoint index
put_told index apply_faults.TooManyPages = faults.BadCheckpoint index
put_told index apply_faults.Memory = faults.Memory

-- the last part of a complete checkpoint
abbrev pub IsLastPart : Item → Type 0
IsLastPart (items.Part p) = IsSome p.rest
IsLastPart (items.Opening o) = ⊥
IsLastPart (items.Frame f) = ⊥

-- an item that doesn't follow from a base, a row and a state
abbrev pub Fails : Item → State → List Part → State → Type 0
Fails item base row s = ItemsFollow base row s (item ∷ []) → ⊥

-- why a frame, a part, and the parts of a complete checkpoint aren't followed; memory is told of a frame only if it leads on, or
-- if its thread meets no memory
abbrev pub FrameRefused : VerifyFault → ℕ → Frame → State → Type 0
FrameRefused (faults.Mismatch place) index f s = (place ≡ index) × ((new : State) → FrameStep s f new → ⊥)
FrameRefused (faults.BadCheckpoint place) index f s = ⊥
FrameRefused faults.BadOpening index f s = ⊥
FrameRefused (faults.Unreadable place) index f s = ⊥
FrameRefused faults.Memory index f s = ((new : State) × FrameStep s f new) ⊎ FrameMeetsNoMemory s f

abbrev pub CheckpointRefused : VerifyFault → ℕ → State → List Part → State → Type 0
CheckpointRefused (faults.Mismatch place) index base parts s = ⊥
CheckpointRefused (faults.BadCheckpoint place) index base parts s = (place ≡ index) × (Describes base parts s → ⊥)
CheckpointRefused faults.BadOpening index base parts s = ⊥
CheckpointRefused (faults.Unreadable place) index base parts s = ⊥
CheckpointRefused faults.Memory index base parts s = Unit {0}

abbrev pub PartRefused : VerifyFault → ℕ → Part → State → List Part → State → Type 0
PartRefused (faults.Mismatch place) index p base row s = ⊥
PartRefused (faults.BadCheckpoint place) index p base row s =
    (place ≡ index) × IsSome p.rest × (PartFits p.rest base (row ++ p ∷ []) s → ⊥)
PartRefused faults.BadOpening index p base row s = ⊥
PartRefused (faults.Unreadable place) index p base row s = ⊥
PartRefused faults.Memory index p base row s = Unit {0}

-- why a record behind these isn't followed
abbrev pub RefusesNext : VerifyFault → ℕ → ℕ → Record → State → List Part → State → Type 0
RefusesNext (faults.Mismatch place) guest index r base row s =
    (place ≡ index) × (r.guest ≡ guest → r.index ≡ index → (IsLastPart r.item → ⊥) × Fails r.item base row s)
RefusesNext (faults.BadCheckpoint place) guest index r base row s =
    (place ≡ index) × (r.guest ≡ guest) × (r.index ≡ index) × IsLastPart r.item × Fails r.item base row s
RefusesNext faults.BadOpening guest index r base row s = ⊥
RefusesNext (faults.Unreadable place) guest index r base row s = ⊥
RefusesNext faults.Memory guest index r base row s = Unit {0}

-- the records before this place are a recording, and with the one there they are none
pub record StopsAt (index : ℕ) (records : List Record) : Type 0 where
  pub within : index < length records
  pub before : IsRecording (take index records)
  pub stops : IsRecording (take (index + 1) records) → ⊥

-- the record at this place is the last part of a complete checkpoint, at its place among its guest's records
pub record EndsCheckpointAt (index : ℕ) (records : List Record) : Type 0 where
  pub guest : ℕ
  pub numbered : IsNumbered guest 0 (take (index + 1) records)
  pub there : IsSomeAnd (slice_get records index) (λ r. IsLastPart r.item)

-- The first bad item is named. Memory is answered only where the first record is an opening that takes memory.
abbrev pub RefusesVerify : VerifyFault → List Record → Type 0
RefusesVerify faults.BadOpening records = IsRecording (take 1 records) → ⊥
RefusesVerify (faults.Mismatch index) records = StopsAt index records × (EndsCheckpointAt index records → ⊥)
RefusesVerify (faults.BadCheckpoint index) records = StopsAt index records × EndsCheckpointAt index records
RefusesVerify faults.Memory records = IsSomeAnd (slice_get records 0) TakesMemory
RefusesVerify (faults.Unreadable index) records = ⊥
