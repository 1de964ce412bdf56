-- What contracts see of a guest that follows its records.
use Rattle.std.specs.Prelude.{◌≡◌, ℕ, List}
use Rattle.rrv_model.specs.declared.record.Item.{Item}
use Rattle.rrv_model.specs.declared.record.Item.TheVariants as items
use Rattle.rrv_model.specs.declared.record.Part.{Part}
use Rattle.rrv_model.specs.declared.record.Record.{Record}
use Rattle.rrv_model.specs.State.{State}
use Rattle.rrv_model.specs.FrameStep.{FrameStep}
use Rattle.guest_calls.specs.Guest.{GuestValue, state_of}
use Rattle.faults.specs.declared.replay.VerifyFault.{VerifyFault}
use Rattle.faults.specs.declared.replay.VerifyFault.TheVariants as faults
use Rattle.replayer.specs.Standings.{IsReached, Standing}

-- the guest, its number, how many records it followed and what they count, and its last complete checkpoint
pub record FollowingValue : Type 0 where
  pub guest : GuestValue
  pub number : ℕ
  pub len : ℕ
  pub total : ℕ
  -- the tid of the last frame that has a thread
  pub last : ℕ
  -- the guest of the last complete checkpoint, or of the opening
  pub base : GuestValue
  -- the parts since
  pub row : List Part

-- where it stands
abbrev pub standing_of : FollowingValue → Standing
standing_of following = record {
  number = following.number;
  len = following.len;
  total = following.total;
  last = following.last;
  base = state_of following.base;
  row = following.row;
  state = state_of following.guest;
}

-- it followed just these records, which are a recording that ends in its guest's state
abbrev pub IsBehind : FollowingValue → List Record → Type 0
IsBehind following records = IsReached (standing_of following) records

-- the state behind an item: of a frame the one that it leads to, of a part the same
abbrev pub StepsBy : Item → State → State → Type 0
StepsBy (items.Opening o) s s' = ⊥
StepsBy (items.Frame f) s s' = FrameStep s f s'
StepsBy (items.Part p) s s' = s' ≡ s

-- what is named, is named by this index
abbrev pub Names : VerifyFault → ℕ → Type 0
Names (faults.Mismatch place) index = place ≡ index
Names (faults.BadCheckpoint place) index = place ≡ index
Names faults.BadOpening index = ⊥
Names (faults.Unreadable place) index = ⊥
Names faults.Memory index = Unit {0}
