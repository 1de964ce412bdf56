-- What the flusher's seat and its log are in the world of a recording.
use Rattle.std.specs.Prelude.{◌≡◌, ℕ, ◌+◌, ◌<◌, ◌≤◌, true, List, [], ◌∷◌, ◌++◌, map, slice_index, Contains}
use Rattle.std.specs.List.{range_with_len}
use Rattle.rrv_model.specs.Recovered.{mark}
use Rattle.store_model.specs.CrashModel.{DiskState}
use Rattle.trace_disk.specs.Devices.{Device}
use Rattle.trace_log.specs.Kept.{HoldsMark, Keeps, LogValue}
use Rattle.commit_core.specs.World.{World, Stage, joined, committed_count, stored_bodies}
use Rattle.commit_core.specs.World.Stage.{Idle, Broken}
use Rattle.commit_core.specs.Events.{CanWrite, left_place}
use Rattle.commit_core.specs.Events.Event.{WriteBody, WriteBodyFails, Sync1, Sync1Fails, OpenGate, OpenGateFails, Sync2, Sync2Fails, Publish, Halt, LookLeft}
use Rattle.commit_core.specs.Holders.{Act, Does, loading, plain, receives}
use Rattle.commit_core.specs.Holders.Holder.{TheFlusher}
use Rattle.commit_group.specs.declared.fault.FlushFault.TheVariants.{DeviceFailed, Halted, TooLong, NeedsMark, Memory}
use Rattle.commit_group.specs.Numbers.{base}
use Rattle.commit_group.specs.Seats.{FlusherValue}
use Rattle.commit_group.specs.Turns.{AllCommitted, RefusesTurn, TurnCommits, TurnFindsNone, TurnRefused}

-- What the seat and its log keep is what the world's flusher keeps at this stage, and its disk, where the guest at place 0
-- has this number. What waits for the seat is in the flusher's hand, or waits there.
pub record StandsAt {D : Type 0} (state : D → DiskState) (stage : Stage) (first : ℕ)
    (f : FlusherValue) (log : LogValue D) (w : World) : Type 0 where
  pub guests : w.guests ≡ f.group.guests
  pub first_is : w.first_guest ≡ first
  pub finished : joined w.flusher.finished ≡ f.committed
  pub waiting : w.flusher.hand ++ w.flusher.waiting ≡ f.waiting
  pub told : (g : ℕ) → g < w.guests → w.flusher.told g ≡ slice_index f.told g
  pub totals : (g : ℕ) → g < w.guests → w.flusher.totals g ≡ slice_index f.totals g
  pub halted : w.flusher.halted ≡ f.halted
  pub stage_is : w.flusher.stage ≡ stage
  pub disk : w.disk ≡ state log.disk

-- Between two turns: nothing is in hand, and the log keeps the world's bodies. If it is told to hold the Mark, they do.
pub record StandsFor {D : Type 0} (state : D → DiskState) (first : ℕ)
    (f : FlusherValue) (log : LogValue D) (w : World) : Type 0 where
  pub stands : StandsAt state Idle first f log w
  pub hand : w.flusher.hand ≡ []
  pub keeps : Keeps state log (stored_bodies w)
  pub marked : HoldsMark log (stored_bodies w)

-- ---- the acts of a turn

-- a body of the first so many records that wait is committed
abbrev pub commits : ℕ → List Act
commits count = plain (WriteBody count) ∷ plain Sync1 ∷ plain OpenGate ∷ plain Sync2 ∷ []

-- so is none: one of the four calls fails, and leaves this disk
abbrev pub failing : ℕ → DiskState → List (List Act)
failing count disk =
    (plain (WriteBodyFails count disk) ∷ [])
    ∷ (plain (WriteBody count) ∷ plain Sync1Fails ∷ [])
    ∷ (plain (WriteBody count) ∷ plain Sync1 ∷ plain (OpenGateFails disk) ∷ [])
    ∷ (plain (WriteBody count) ∷ plain Sync1 ∷ plain OpenGate ∷ plain Sync2Fails ∷ []) ∷ []

-- the counts of the first so many guests are published, one after another
abbrev pub publishes : ℕ → List Act
publishes guests = map (λ g. plain (Publish g)) (range_with_len 0 guests)

-- the leave words of the first so many guests are loaded, one after another, and are those that the seat then knows
abbrev pub left_looks : FlusherValue → ℕ → List Act
left_looks f guests = map (λ g. loading (LookLeft g) (slice_index f.totals g)) (range_with_len 0 guests)

-- ---- turns that receive

-- A turn that commits is what the flusher of a world may do by itself. Let the seat and the log stand for it. Then it may
-- receive what the turn received, commit a body of as many records, and publish all counts. The seat and the log stand for it
-- in every world that this leaves.
abbrev pub TurnsAreEvents : {D : Type 0} → Device D → Type 0
TurnsAreEvents {D = D} device =
    (old new : FlusherValue) (log log' : LogValue D) (count : ℕ) (w : World)
    → (turn : TurnCommits device old new log log' count) → device.honest log.disk
    → StandsFor device.state (base new.first_guest) old log w
    → Does TheFlusher (receives turn.more ++ commits count ++ publishes w.guests)
    (StandsFor device.state (base new.first_guest) new log') w

-- So is one whose commit a failed call of the disk stopped: the flusher is then broken, and halted as the seat is.
abbrev pub FailuresAreEvents : {D : Type 0} → Device D → Type 0
FailuresAreEvents {D = D} device =
    (old new : FlusherValue) (log log' : LogValue D) (w : World)
    → (turn : TurnRefused device old new log log' DeviceFailed) → device.honest log.disk
    → StandsFor device.state (base new.first_guest) old log w
    → (calls : List Act) × Contains (failing turn.refused.count (device.state log'.disk)) calls
    × Does TheFlusher (receives turn.more ++ calls ++ plain Halt ∷ [])
    (StandsAt device.state Broken (base new.first_guest) new log') w

-- A turn that found no memory only received.
abbrev pub ShortagesAreEvents : {D : Type 0} → Device D → Type 0
ShortagesAreEvents {D = D} device =
    (old new : FlusherValue) (log log' : LogValue D) (w : World)
    → (turn : TurnRefused device old new log log' Memory)
    → StandsFor device.state (base new.first_guest) old log w
    → Does TheFlusher (receives turn.more) (StandsFor device.state (base new.first_guest) new log') w

-- One whose batch is past a limit received, and halted; no more may that batch be written in the world.
abbrev pub LimitsAreEvents : {D : Type 0} → Device D → Type 0
LimitsAreEvents {D = D} device =
    (old new : FlusherValue) (log log' : LogValue D) (w : World)
    → (turn : TurnRefused device old new log log' TooLong)
    → StandsFor device.state (base new.first_guest) old log w
    → Does TheFlusher (receives turn.more ++ plain Halt ∷ [])
    (λ end. StandsFor device.state (base new.first_guest) new log' end × (CanWrite end turn.refused.count → ⊥)) w

-- One whose batch needs the Mark received, and halted; no more may that batch be written in a world without the Mark.
abbrev pub UnmarkedTurnsAreEvents : {D : Type 0} → Device D → Type 0
UnmarkedTurnsAreEvents {D = D} device =
    (old new : FlusherValue) (log log' : LogValue D) (w : World)
    → (turn : TurnRefused device old new log log' NeedsMark)
    → StandsFor device.state (base new.first_guest) old log w
    → Does TheFlusher (receives turn.more ++ plain Halt ∷ [])
    (λ end. StandsFor device.state (base new.first_guest) new log' end
    × ((Contains (stored_bodies end) mark → ⊥) → CanWrite end turn.refused.count → ⊥)) w

-- ---- turns that receive nothing

-- One of a group that was halted earlier did nothing: the flusher of the world has halted, and all stands as it stood.
abbrev pub HaltedTurnsAreNoEvents : {D : Type 0} → Device D → Type 0
HaltedTurnsAreNoEvents {D = D} device =
    (stage : Stage) (first : ℕ) (old new : FlusherValue) (log log' : LogValue D) (w : World)
    → RefusesTurn device old new log log' Halted → StandsAt device.state stage first old log w
    → (w.flusher.halted ≡ true) × StandsAt device.state stage first new log' w
    × (StandsFor device.state first old log w → StandsFor device.state first new log' w)

-- up to this guest's the leave words are those that the seat knows
abbrev pub WordsStand : World → FlusherValue → ℕ → Type 0
WordsStand w f last = (g : ℕ) → g ≤ last → w.words (left_place w g) ≡ slice_index f.totals g

-- by their words all recorders have left, and all that these count is committed
abbrev pub HaveLeft : World → Type 0
HaveLeft w = (g : ℕ) → g < w.guests → w.words (left_place w g) ≡ committed_count (w.first_guest + g) w.flusher + 1

-- A turn that found nothing loaded leave words. If it answered Idle, not all have left with all committed, where these words
-- stand still.
abbrev pub IdleTurnsAreEvents : {D : Type 0} → (D → DiskState) → Type 0
IdleTurnsAreEvents {D = D} state =
    (old new : FlusherValue) (log log' : LogValue D) (w : World)
    → (turn : TurnFindsNone old new log log') → (AllCommitted new → ⊥)
    → StandsFor state (base new.first_guest) old log w
    → Does TheFlusher (left_looks new (turn.last + 1))
    (λ end. StandsFor state (base new.first_guest) new log' end × (WordsStand end new turn.last → HaveLeft end → ⊥)) w

-- If it answered Done, it loaded the words of all guests, and where they stand still all have.
abbrev pub LastTurnsAreEvents : {D : Type 0} → (D → DiskState) → Type 0
LastTurnsAreEvents {D = D} state =
    (old new : FlusherValue) (log log' : LogValue D) (w : World)
    → (turn : TurnFindsNone old new log log') → AllCommitted new
    → StandsFor state (base new.first_guest) old log w
    → Does TheFlusher (left_looks new w.guests)
    (λ end. StandsFor state (base new.first_guest) new log' end × (WordsStand end new turn.last → HaveLeft end)) w
