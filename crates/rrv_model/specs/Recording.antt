-- Recording: the records of one guest, in order, each of which follows from those before it.
use Rattle.std.specs.Prelude.{◌≡◌, ℕ, suc, ◌+◌, List, [], ◌∷◌, ◌++◌, length, map, take, Option, Some, None}
use Rattle.rrv_model.specs.declared.record.Frame.{Frame}
use Rattle.rrv_model.specs.declared.record.CheckpointRest.{CheckpointRest}
use Rattle.rrv_model.specs.declared.record.Part.{Part}
use Rattle.rrv_model.specs.declared.record.Item.{Item}
use Rattle.rrv_model.specs.declared.record.Item.TheVariants as items
use Rattle.rrv_model.specs.declared.record.Record.{Record}
use Rattle.rrv_model.specs.State.{State}
use Rattle.rrv_model.specs.FrameStep.{FrameStep}
use Rattle.rrv_model.specs.Opening.{Opens}
use Rattle.rrv_model.specs.StateAt.{StateAt, total}
use Rattle.rrv_model.specs.Checkpoint.{Describes}

-- the guest's records from this index on
abbrev pub IsNumbered : ℕ → ℕ → List Record → Type 0
IsNumbered guest index [] = Unit {0}
IsNumbered guest index (r ∷ records) = (r.guest ≡ guest) × (r.index ≡ index) × IsNumbered guest (index + 1) records

-- what a part says of the state, with the parts in a row before it: an unflagged one says nothing yet
abbrev pub PartFits : Option CheckpointRest → State → List Part → State → Type 0
PartFits None base parts s = Unit {0}
PartFits (Some rest) base parts s = Describes base parts s

-- the base and the parts in a row behind a part: behind a flagged one the base is the state there
abbrev pub base_after : Option CheckpointRest → State → State → State
base_after None base s = base
base_after (Some rest) base s = s

abbrev pub row_after : Option CheckpointRest → List Part → List Part
row_after None parts = parts
row_after (Some rest) parts = []

-- The items go on from a state: base is that of the last complete checkpoint, or the opening state; parts are those in
-- a row since the last item that is no part or is flagged.
abbrev pub ItemsFollow : State → List Part → State → List Item → Type 0
ItemsFollow base parts s [] = Unit {0}
ItemsFollow base parts s (items.Opening o ∷ rest) = ⊥
ItemsFollow base parts s (items.Frame f ∷ rest) = (new : State) × FrameStep s f new × ItemsFollow base [] new rest
ItemsFollow base parts s (items.Part p ∷ rest) =
    PartFits p.rest base (parts ++ p ∷ []) s
    × ItemsFollow (base_after p.rest base s) (row_after p.rest (parts ++ p ∷ [])) s rest

abbrev pub Starts : List Item → Type 0
Starts [] = ⊥
Starts (items.Opening o ∷ rest) = (s : State) × Opens o s × ItemsFollow s [] s rest
Starts (items.Frame f ∷ rest) = ⊥
Starts (items.Part p ∷ rest) = ⊥

abbrev pub items_of : List Record → List Item
items_of records = map (λ r. r.item) records

pub record IsRecording (records : List Record) : Type 0 where
  pub guest : ℕ
  pub numbered : IsNumbered guest 0 records
  pub starts : Starts (items_of records)

-- the frames among the items
abbrev pub frames_of : List Item → List Frame
frames_of [] = []
frames_of (items.Frame f ∷ rest) = f ∷ frames_of rest
frames_of (items.Opening o ∷ rest) = frames_of rest
frames_of (items.Part p ∷ rest) = frames_of rest

-- the state after all frames of the items, of which the first is an Opening
abbrev pub EndsIn : List Item → State → Type 0
EndsIn [] s = ⊥
EndsIn (items.Opening o ∷ rest) s = StateAt o (frames_of rest) (total (frames_of rest)) s
EndsIn (items.Frame f ∷ rest) s = ⊥
EndsIn (items.Part p ∷ rest) s = ⊥

-- ---- laws

abbrev pub frame_record : ℕ → ℕ → Frame → Record
frame_record guest index f = record { guest = guest; index = index; item = items.Frame f }

-- a beginning that isn't empty is a recording
abbrev pub BeginningsAreRecordings : Type 0
BeginningsAreRecordings = (records : List Record) (k : ℕ) → IsRecording records → IsRecording (take (suc k) records)

-- items leave one state after all their frames at most
abbrev pub OneEnd : Type 0
OneEnd = (items : List Item) (s s' : State) → EndsIn items s → EndsIn items s' → s ≡ s'

-- a frame from the state behind a recording makes it a longer one, which ends in the frame's new state
abbrev pub FramesAppend : Type 0
FramesAppend =
    (records : List Record) (guest : ℕ) (old new : State) (f : Frame) →
    IsRecording records → IsNumbered guest 0 records → EndsIn (items_of records) old → FrameStep old f new →
    IsRecording (records ++ frame_record guest (length records) f ∷ [])
    × EndsIn (items_of (records ++ frame_record guest (length records) f ∷ [])) new
