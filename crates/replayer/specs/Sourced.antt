-- Records that a source gives one at a time.
use Rattle.std.specs.Prelude.{◌≡◌, ℕ, ◌+◌, ◌^◌, ◌<◌, ◌≤◌, Bool, true, false, List, length, take, drop, Some, Result, Ok, Err, IsSomeAnd, slice_get}
use Rattle.rrv_model.specs.declared.record.Part.{Part}
use Rattle.rrv_model.specs.declared.record.Record.{Record}
use Rattle.rrv_model.specs.State.{State}
use Rattle.rrv_model.specs.Recording.{EndsIn, IsRecording, frames_of, items_of}
use Rattle.rrv_model.specs.StateAt.{total}
use Rattle.guest_calls.specs.Guest.{state_of}
use Rattle.serial_sched.specs.LastThread.{last_tid}
use Rattle.faults.specs.declared.replay.VerifyFault.{VerifyFault}
use Rattle.faults.specs.declared.replay.VerifyFault.TheVariants as faults
use Rattle.recover.specs.declared.fault.ReadFault.{ReadFault}
use Rattle.recover.specs.declared.fault.ReadFault.TheVariants as read_faults
use Rattle.replayer.specs.declared.verified_end.VerifiedEnd.{VerifiedEnd}
use Rattle.replayer.specs.declared.walk.Walk.{Walk}
use Rattle.replayer.specs.Kept.{KeepsAll, KeepsOn, RowIs, instructions_in}
use Rattle.replayer.specs.LastThread.{thread_behind}
use Rattle.replayer.specs.Refusals.{RefusesNext, RefusesVerify}
use Rattle.replayer.specs.Walks.{LeadsOn, Stands}

-- a source gave no record, though there was memory
abbrev pub withholds : {T : Type 0} → Result T ReadFault → Bool
withholds (Ok x) = false
withholds (Err read_faults.DeviceFailed) = true
withholds (Err read_faults.Damaged) = true
withholds (Err read_faults.Memory) = false

-- a verification ended at a record that was withheld
abbrev pub is_unreadable : VerifyFault → Bool
is_unreadable (faults.Unreadable index) = true
is_unreadable (faults.Mismatch index) = false
is_unreadable (faults.BadCheckpoint index) = false
is_unreadable faults.BadOpening = false
is_unreadable faults.Memory = false

abbrev pub ends_withheld : {T : Type 0} → Result T VerifyFault → Bool
ends_withheld (Ok x) = false
ends_withheld (Err e) = is_unreadable e

-- a record that is named as unreadable is one that the source has withheld
abbrev pub NamesWithheld : {S : Type 0} → (S → ℕ → Type 0) → S → VerifyFault → Type 0
NamesWithheld withheld_at source (faults.Unreadable index) = withheld_at source index
NamesWithheld withheld_at source (faults.Mismatch index) = Unit {0}
NamesWithheld withheld_at source (faults.BadCheckpoint index) = Unit {0}
NamesWithheld withheld_at source faults.BadOpening = Unit {0}
NamesWithheld withheld_at source faults.Memory = Unit {0}

-- it is the end of just these records, which are a recording
pub record IsEndOf (end : VerifiedEnd) (records : List Record) : Type 0 where
  pub recording : IsRecording records
  pub ends : EndsIn (items_of records) (state_of end.guest)
  pub total : end.total ≡ total (frames_of (items_of records))
  pub len : end.len ≡ length records
  pub last : end.last ≡ last_tid (frames_of (items_of records))

-- The refusals of the list. A record that isn't given is named behind those that are a recording, and memory may be wanted
-- for each.
abbrev pub RefusesSource : VerifyFault → List Record → Type 0
RefusesSource faults.BadOpening records = RefusesVerify faults.BadOpening records
RefusesSource (faults.Mismatch index) records = RefusesVerify (faults.Mismatch index) records
RefusesSource (faults.BadCheckpoint index) records = RefusesVerify (faults.BadCheckpoint index) records
RefusesSource faults.Memory records = 1 ≤ length records
RefusesSource (faults.Unreadable index) records =
    (index < length records) × (1 ≤ index → IsRecording (take index records))

-- a record is given, which is the source's at this place if it is honest, and leads on
pub record FollowsGiven {S : Type 0} (honest : S → Type 0) (records : S → List Record) (source : S) (guest index : ℕ)
    (old new : Walk) : Type 0 where
  pub entry : Record
  pub there : honest source → slice_get (records source) index ≡ Some entry
  pub keeps : old.keeps ≡ true → KeepsOn entry.item old.parts.items old.frames.items old.marks.items old.total
      new.frames.items new.marks.items new.total
  pub goes_on : new.keeps ≡ old.keeps
  pub counted : new.total ≡ old.total + instructions_in entry.item
  pub last : new.last ≡ thread_behind entry.item old.last
  pub row : RowIs entry.item old.parts.items new.parts.items
  pub grown : new.total ≤ old.total + 2 ^ 20
  pub leads : LeadsOn guest index entry (state_of old.pair.base) old.parts.items (state_of old.pair.guest)
      (state_of new.pair.base) new.parts.items (state_of new.pair.guest)

-- records that begin with this one, followed: what stands behind them, what is kept of them, and where they end
pub record Followed (first : Record) (records : List Record) (walk : Walk) : Type 0 where
  pub first_is : IsSomeAnd (slice_get records 0) (λ r. r ≡ first)
  pub stands : Stands first.guest records (state_of walk.pair.base) walk.parts.items (state_of walk.pair.guest)
  pub keeps : walk.keeps ≡ true
      → KeepsAll (drop 1 (items_of records)) walk.parts.items walk.frames.items walk.marks.items walk.total
  pub ends : EndsIn (items_of records) (state_of walk.pair.guest)
  pub counted : walk.total ≡ total (frames_of (items_of records))
  pub last : walk.last ≡ last_tid (frames_of (items_of records))

-- all records that a source gave, which are those that it stands for if it is honest
pub record FollowsAll {S : Type 0} (honest : S → Type 0) (records : S → List Record) (source : S) (first : Record) (walk : Walk)
    : Type 0 where
  pub read : List Record
  pub followed : Followed first read walk
  pub all : length read ≡ length (records source)
  pub are : honest source → slice_get (records source) 0 ≡ Some first → read ≡ records source

-- why the record at a place isn't given, or not followed
abbrev pub RefusesGiven : VerifyFault → ℕ → ℕ → List Record → State → List Part → State → Type 0
RefusesGiven faults.BadOpening guest index records base row s = ⊥
RefusesGiven (faults.Mismatch place) guest index records base row s =
    (r : Record) × (slice_get records index ≡ Some r) × RefusesNext (faults.Mismatch place) guest index r base row s
RefusesGiven (faults.BadCheckpoint place) guest index records base row s =
    (r : Record) × (slice_get records index ≡ Some r) × RefusesNext (faults.BadCheckpoint place) guest index r base row s
RefusesGiven faults.Memory guest index records base row s = Unit {0}
RefusesGiven (faults.Unreadable place) guest index records base row s = place ≡ index
