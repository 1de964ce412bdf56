-- When a recorder makes checkpoints, and against what.
use Rattle.std.specs.Prelude.{◌≡◌, ℕ, ◌-◌, ◌≤◌, List, [], ◌++◌, length, map, replicate, Option, Some, None}
use Rattle.std.specs.List.{AllByRecursion}
use Rattle.rrv_model.specs.declared.record.Item.{Item}
use Rattle.rrv_model.specs.declared.record.Item.TheVariants as items
use Rattle.rrv_model.specs.declared.record.Part.{Part}
use Rattle.rrv_model.specs.Checkpoint.{Describes, all_pages}
use Rattle.rrv_model.specs.Memory.{page_count}
use Rattle.rrv_model.specs.RecordText.{HasPartText}
use Rattle.rrv_model.specs.Standing.{StandsBehind}
use Rattle.rrv_model.specs.State.{State, IsState}
use Rattle.guest_calls.specs.Guest.{GuestValue, state_of}
use Rattle.guest_calls.specs.Snapshots.{guest_snapshots}
use Rattle.checkpoint.specs.Made.{IsBaseOf, NamesChanges, kept_memory}
use Rattle.recorder.specs.declared.checkpoints.Checkpoints.{Checkpoints}
use Rattle.recorder.specs.declared.every.Every.{Every}
use Rattle.recorder.specs.declared.every.Every.TheVariants as everys
use Rattle.recorder.specs.Gaps.{first_gap, gap_behind}
use Rattle.recorder.specs.Owed.{Owed}

-- ---- when

-- how far apart they are; where there are none, 0 were asked for
abbrev pub every_of : Option Checkpoints → Every
every_of None = everys.Instructions 0
every_of (Some c) = c.every

-- how many instructions lie behind the last one, or the start, at the least
abbrev pub gap_of : Option Checkpoints → ℕ
gap_of None = 0
gap_of (Some c) = c.gap

-- how many had run at the last one, or at the start
abbrev pub last_of : Option Checkpoints → ℕ
last_of None = 0
last_of (Some c) = c.last

-- a checkpoint is due: the guest hasn't ended, and has run far enough since the last one
pub record IsDue (gap last : ℕ) (guest : GuestValue) : Type 0 where
  pub some : 1 ≤ gap
  pub runs : (state_of guest).ended ≡ None
  pub far : gap ≤ guest.ran - last

-- ---- against what

-- the guest keeps its memory as it is, and has run as many instructions as are noted
pub record StartsWith (guest : GuestValue) (c : Checkpoints) : Type 0 where
  pub gap : c.gap ≡ first_gap c.every
  pub kept : guest_snapshots guest c.base ≡ Some (state_of guest).memory
  pub last : c.last ≡ guest.ran

-- the memory that the guest keeps is that of a state which is the base behind these items
pub record HasBase (its : List Item) (guest : GuestValue) (c : Checkpoints) : Type 0 where
  pub base : State
  pub is_state : IsState base
  pub behind : StandsBehind its base [] (state_of guest)
  pub kept : guest_snapshots guest c.base ≡ Some base.memory
  pub version : base.version ≡ (state_of guest).version
  pub opening_break : base.opening_break ≡ (state_of guest).opening_break

abbrev pub KeepsBase : Option Checkpoints → List Item → GuestValue → Type 0
KeepsBase None its guest = Unit {0}
KeepsBase (Some c) its guest = HasBase its guest c

-- ---- how

-- A checkpoint was made of the guest, against the memory kept before. Its parts, of which there may be so many, are
-- behind the items and put nothing out, and the guest's memory is kept instead of the one before.
pub record MakesCheckpoint (old new : Checkpoints) (guest guest' : GuestValue) (its its' : List Item)
    (owed owed' : Owed) (most : ℕ) : Type 0 where
  pub parts : List Part
  pub few : length parts ≤ most
  pub texts : AllByRecursion HasPartText parts
  pub describes : (base : State) → IsBaseOf (kept_memory guest old.base) base (state_of guest)
      → Describes base parts (state_of guest)
  pub changes : NamesChanges (kept_memory guest old.base) (state_of guest).memory (all_pages parts)
  pub items_are : its' ≡ its ++ map items.Part parts
  pub released : owed'.released ≡ owed.released
  pub owed_is : owed'.owed ≡ owed.owed ++ replicate (length parts) []
  pub every : new.every ≡ old.every
  pub gap : new.gap ≡ gap_behind old.every parts (page_count (state_of guest).memory)
  pub kept : guest_snapshots guest' new.base ≡ Some (state_of guest).memory
  pub gone : guest_snapshots guest' old.base ≡ None
  pub last : new.last ≡ guest.ran
