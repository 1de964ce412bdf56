-- What single calls of the seats are in the world of a recording: one act of their holder's.
use Rattle.std.specs.Prelude.{◌≡◌, ℕ, ◌<◌, Bool, true, false, List, [], ◌∷◌, slice_index}
use Rattle.rrv_model.specs.declared.record.Item.{Item}
use Rattle.rrv_model.specs.declared.record.Record.{Record}
use Rattle.store_model.specs.CrashModel.{DiskState}
use Rattle.trace_log.specs.Kept.{LogValue}
use Rattle.commit_core.specs.World.{World, Stage, flag}
use Rattle.commit_core.specs.Events.Event.{Push, Look, LookHalt, Leave, Publish, Halt, LookLeft}
use Rattle.commit_core.specs.Holders.{Does, loading, plain}
use Rattle.commit_core.specs.Holders.Holder.{TheFlusher, TheRecorder}
use Rattle.commit_group.specs.Flushes.{after_publish, after_halt, after_look_left}
use Rattle.commit_group.specs.Numbers.{numbered, renumbered, base}
use Rattle.commit_group.specs.Seats.{RecorderValue, FlusherValue, committed_of, next_record}
use Rattle.commit_group.specs.Submits.{after_look, after_look_halt, after_send}
use Rattle.commit_group.specs.Worlds.{StandsAt}

-- ---- a recorder's seat

-- What the seat keeps is what the world's recorder at its place keeps, which sent the same under the numbers of the store.
pub record StandsForRecorder (r : RecorderValue) (w : World) : Type 0 where
  pub there : r.guest < w.guests
  pub sent : (w.recorders r.guest).sent ≡ renumbered w.first_guest r.sent
  pub seen : (w.recorders r.guest).seen ≡ r.seen
  pub knows_halt : (w.recorders r.guest).knows_halt ≡ r.knows_halt
  pub left : (w.recorders r.guest).left ≡ r.has_left

-- it loads this word
abbrev pub LooksAreEvents : Type 0
LooksAreEvents = (r : RecorderValue) (w : World) (word : ℕ) → StandsForRecorder r w
    → Does (TheRecorder r.guest) (loading (Look r.guest) word ∷ []) (StandsForRecorder (after_look r word)) w

abbrev pub HaltLooksAreEvents : Type 0
HaltLooksAreEvents = (r : RecorderValue) (w : World) (found : Bool) → StandsForRecorder r w
    → Does (TheRecorder r.guest) (loading (LookHalt r.guest) (flag found) ∷ [])
    (StandsForRecorder (after_look_halt r found)) w

abbrev pub LeavesAreEvents : Type 0
LeavesAreEvents = (r : RecorderValue) (w : World) → StandsForRecorder r w
    → Does (TheRecorder r.guest) (plain (Leave r.guest) ∷ []) (StandsForRecorder (record r { has_left = true })) w

-- the recorder's next record is sent, and the rest still waits
abbrev pub SendsAreEvents : Type 0
SendsAreEvents = (r : RecorderValue) (item : Item) (rest : List Record) (w : World)
    → StandsForRecorder r w → r.has_left ≡ false
    → (w.recorders r.guest).backlog ≡ numbered w.first_guest (next_record r item) ∷ rest
    → Does (TheRecorder r.guest) (plain (Push r.guest (numbered w.first_guest (next_record r item)) rest) ∷ [])
    (λ end. StandsForRecorder (after_send r (next_record r item)) end × ((end.recorders r.guest).backlog ≡ rest)) w

pub record RecorderCallsAreEvents : Type 0 where
  pub looks : LooksAreEvents
  pub halt_looks : HaltLooksAreEvents
  pub leaves : LeavesAreEvents
  pub sends : SendsAreEvents

-- ---- the flusher's seat

-- Premises of each are the clauses of its call.
abbrev pub PublishesAreEvents : {D : Type 0} → (D → DiskState) → Type 0
PublishesAreEvents {D = D} state = (stage : Stage) (old new : FlusherValue) (log : LogValue D) (w : World) (g : ℕ)
    → g < old.group.guests → new ≡ after_publish old g → slice_index new.told g ≡ committed_of old g
    → StandsAt state stage (base old.first_guest) old log w
    → Does TheFlusher (plain (Publish g) ∷ []) (StandsAt state stage (base old.first_guest) new log) w

abbrev pub HaltsAreEvents : {D : Type 0} → (D → DiskState) → Type 0
HaltsAreEvents {D = D} state = (stage : Stage) (first : ℕ) (f : FlusherValue) (log : LogValue D) (w : World)
    → StandsAt state stage first f log w
    → Does TheFlusher (plain Halt ∷ []) (StandsAt state stage first (after_halt f) log) w

-- it loads this word
abbrev pub LeftLooksAreEvents : {D : Type 0} → (D → DiskState) → Type 0
LeftLooksAreEvents {D = D} state =
    (stage : Stage) (first : ℕ) (old new : FlusherValue) (log : LogValue D) (w : World) (g word : ℕ)
    → g < old.group.guests → new ≡ after_look_left old g word → slice_index new.totals g ≡ word
    → StandsAt state stage first old log w
    → Does TheFlusher (loading (LookLeft g) word ∷ []) (StandsAt state stage first new log) w

pub record FlusherCallsAreEvents {D : Type 0} (state : D → DiskState) : Type 0 where
  pub publishes : PublishesAreEvents state
  pub halts : HaltsAreEvents state
  pub left_looks : LeftLooksAreEvents state
