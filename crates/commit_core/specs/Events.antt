-- The events of the world: when each may happen, and what it does. Each effect is a function of its holder's part.
-- A crash is no event: it may come between two events, or within a call of the disk. Within a write it counts as after
-- it, and within a sync as before it.
use Rattle.std.specs.Prelude.{◌≡◌, ℕ, ◌+◌, ◌<◌, ◌≤◌, ◌==◌, min, true, false, if◌then◌else◌, List, [], ◌∷◌, ◌++◌, length, take, drop}
use Rattle.rrv_model.specs.declared.limits.TheConstants.{QUEUE_ITEMS, BATCH_ITEMS}
use Rattle.store_model.specs.declared.limits.TheConstants.{MAX_BODY, MAX_SEGMENTS, MAX_STORE}
use Rattle.rrv_model.specs.declared.record.Record.{Record}
use Rattle.store_model.specs.CrashModel.{DiskState}
use Rattle.store_model.specs.DiskCalls.{after_write, after_sync, FailsToWrite}
use Rattle.rrv_model.specs.State.{State}
use Rattle.rrv_model.specs.RecordText.{HasText}
use Rattle.rrv_model.specs.Recording.{IsRecording, IsNumbered, EndsIn, items_of}
use Rattle.store_model.specs.StoreText.{segment}
use Rattle.rrv_model.specs.Recovered.{body_text, MayFollow}
use Rattle.commit_core.specs.Runs.{IsOutput}
use Rattle.commit_core.specs.World.{World, Recorder, Flusher, Stage, made, committed_count, stored_bodies, store_text}
use Rattle.commit_core.specs.World.Stage.{Idle, Written, Synced, Opened, Broken}

pub data Event : Type 0 where
  -- of the recorder at a place: it makes a record, sends its next one, looks at its count, puts bytes out, looks at the
  -- halt, leaves
  Slice : (g : ℕ) (r : Record) (s : State) → Event
  Push : (g : ℕ) (r : Record) (rest : List Record) → Event
  Look : (g : ℕ) → Event
  Release : (g : ℕ) (more : List (ℕ × ℕ)) → Event
  LookHalt : (g : ℕ) → Event
  Leave : (g : ℕ) → Event
  -- of the flusher: it receives a record, and commits those that wait; a call of the disk that fails tells which disk
  -- it leaves
  Pop : (r : Record) (rest : List Record) → Event
  WriteBody : (count : ℕ) → Event
  WriteBodyFails : (count : ℕ) (disk : DiskState) → Event
  Sync1 Sync1Fails OpenGate : Event
  OpenGateFails : (disk : DiskState) → Event
  Sync2 Sync2Fails : Event
  -- it publishes a guest's count, halts, and looks whether a guest left
  Publish : (g : ℕ) → Event
  Halt : Event
  LookLeft : (g : ℕ) → Event

-- f with this value at this place
abbrev pub put : {X : Type 0} → (ℕ → X) → ℕ → X → ℕ → X
put f g x k = if k == g then x else f k

-- ---- effects on a recorder

abbrev pub sliced : Record → State → Recorder → Recorder
sliced entry s r = record r { backlog = r.backlog ++ entry ∷ []; states = r.states ++ s ∷ [] }

abbrev pub pushed : Record → List Record → Recorder → Recorder
pushed entry rest r = record r { sent = r.sent ++ entry ∷ []; backlog = rest }

-- it has seen what the word says, of what it sent
abbrev pub looked : ℕ → Recorder → Recorder
looked word r = record r { seen = min word (length r.sent) }

abbrev pub released : List (ℕ × ℕ) → Recorder → Recorder
released more r = record r { out = r.out ++ more }

abbrev pub looked_at_halt : ℕ → Recorder → Recorder
looked_at_halt word r = record r { knows_halt = word == 1 }

abbrev pub gone : Recorder → Recorder
gone r = record r { left = true }

-- ---- effects on the flusher

abbrev pub popped : Record → Flusher → Flusher
popped entry f = record f { waiting = f.waiting ++ entry ∷ [] }

-- the next so many records that wait are in hand
abbrev pub took : ℕ → Stage → Flusher → Flusher
took count stage f = record f { hand = take count f.waiting; waiting = drop count f.waiting; stage = stage }

abbrev pub at_stage : Stage → Flusher → Flusher
at_stage stage f = record f { stage = stage }

-- the body in hand is finished
abbrev pub finished_hand : Flusher → Flusher
finished_hand f = record f { finished = f.finished ++ f.hand ∷ []; hand = []; stage = Idle }

abbrev pub published : ℕ → ℕ → Flusher → Flusher
published g count f = record f { told = put f.told g count }

abbrev pub halting : Flusher → Flusher
halting f = record f { halted = true }

abbrev pub looked_at_left : ℕ → ℕ → Flusher → Flusher
looked_at_left g word f = record f { totals = put f.totals g word }

-- ---- the calls of a commit

-- the place of the last gate
abbrev pub gate_place : World → ℕ
gate_place w = length (store_text (stored_bodies w))

-- what is written behind it: the segment of the next body, and a closed gate
abbrev pub next_body : World → ℕ → List ℕ
next_body w count = body_text (take count w.flusher.waiting)

abbrev pub behind_gate : World → ℕ → List ℕ
behind_gate w count = segment (length (stored_bodies w)) (next_body w count) ++ 0 ∷ []

-- ---- what an event does

abbrev pub with_recorder : World → ℕ → Recorder → World
with_recorder w g r = record w { recorders = put w.recorders g r }

abbrev pub with_flusher : World → Flusher → DiskState → World
with_flusher w f disk = record w { flusher = f; disk = disk }

abbrev pub left_place : World → ℕ → ℕ
left_place w g = w.guests + 1 + g

abbrev pub after : World → Event → World
after w (Slice g r s) = with_recorder w g (sliced r s (w.recorders g))
after w (Push g r rest) = record (with_recorder w g (pushed r rest (w.recorders g))) { queue = w.queue ++ r ∷ [] }
after w (Look g) = with_recorder w g (looked (w.words g) (w.recorders g))
after w (Release g more) = with_recorder w g (released more (w.recorders g))
after w (LookHalt g) = with_recorder w g (looked_at_halt (w.words w.guests) (w.recorders g))
after w (Leave g) =
    let one = w.recorders g in
    record (with_recorder w g (gone one)) { words = put w.words (left_place w g) (length one.sent + 1) }
after w (Pop r rest) = record w { flusher = popped r w.flusher; queue = rest }
after w (WriteBody count) =
    with_flusher w (took count Written w.flusher) (after_write w.disk (gate_place w + 1) (behind_gate w count))
after w (WriteBodyFails count disk) = with_flusher w (took count Broken w.flusher) disk
after w Sync1 = with_flusher w (at_stage Synced w.flusher) (after_sync w.disk)
after w Sync1Fails = with_flusher w (at_stage Broken w.flusher) w.disk
after w OpenGate = with_flusher w (at_stage Opened w.flusher) (after_write w.disk (gate_place w) (0xA5 ∷ []))
after w (OpenGateFails disk) = with_flusher w (at_stage Broken w.flusher) disk
after w Sync2 = with_flusher w (finished_hand w.flusher) (after_sync w.disk)
after w Sync2Fails = with_flusher w (at_stage Broken w.flusher) w.disk
after w (Publish g) =
    let count = committed_count (w.first_guest + g) w.flusher in
    record w { flusher = published g count w.flusher; words = put w.words g count }
after w Halt = record w { flusher = halting w.flusher; words = put w.words w.guests 1 }
after w (LookLeft g) = record w { flusher = looked_at_left g (w.words (left_place w g)) w.flusher }

-- ---- when it may happen

-- the record has a text, and with it what was made stays a recording, whose guest is then in this state
pub record CanSlice (w : World) (g : ℕ) (r : Record) (s : State) : Type 0 where
  pub guest : g < w.guests
  pub has_text : HasText r
  pub recording : IsRecording (made (w.recorders g) ++ r ∷ [])
  pub numbered : IsNumbered (w.first_guest + g) 0 (made (w.recorders g) ++ r ∷ [])
  pub ends : EndsIn (items_of (made (w.recorders g) ++ r ∷ [])) s

pub record CanPush (w : World) (g : ℕ) (r : Record) (rest : List Record) : Type 0 where
  pub guest : g < w.guests
  pub next : (w.recorders g).backlog ≡ r ∷ rest
  pub room : length w.queue < QUEUE_ITEMS
  pub here : (w.recorders g).left ≡ false

-- a batch of records that wait, within the limits of a body and of the store
pub record CanWrite (w : World) (count : ℕ) : Type 0 where
  pub idle : w.flusher.stage ≡ Idle
  pub some : 1 ≤ count
  pub few : count ≤ BATCH_ITEMS
  pub there : count ≤ length w.flusher.waiting
  pub body : length (next_body w count) ≤ MAX_BODY
  pub number : length (stored_bodies w) < MAX_SEGMENTS
  pub store : gate_place w + length (next_body w count) + 42 ≤ MAX_STORE
  -- it stands behind the Mark, or each of its records may stand before it
  pub old : MayFollow (stored_bodies w) (take count w.flusher.waiting)

abbrev pub May : World → Event → Type 0
May w (Slice g r s) = CanSlice w g r s
May w (Push g r rest) = CanPush w g r rest
May w (Look g) = g < w.guests
May w (Release g more) =
    let one = w.recorders g in
    (g < w.guests) × IsOutput (one.out ++ more) (take one.seen (made one))
May w (LookHalt g) = g < w.guests
May w (Leave g) = g < w.guests
May w (Pop r rest) = w.queue ≡ r ∷ rest
May w (WriteBody count) = CanWrite w count
May w (WriteBodyFails count disk) =
    CanWrite w count × FailsToWrite (gate_place w + 1) (length (behind_gate w count)) w.disk disk
May w Sync1 = w.flusher.stage ≡ Written
May w Sync1Fails = w.flusher.stage ≡ Written
May w OpenGate = w.flusher.stage ≡ Synced
May w (OpenGateFails disk) = (w.flusher.stage ≡ Synced) × FailsToWrite (gate_place w) 1 w.disk disk
May w Sync2 = w.flusher.stage ≡ Opened
May w Sync2Fails = w.flusher.stage ≡ Opened
May w (Publish g) = g < w.guests
May w Halt = Unit {0}
May w (LookLeft g) = g < w.guests

-- ---- whole schedules

abbrev pub run : World → List Event → World
run w [] = w
run w (e ∷ events) = run (after w e) events

abbrev pub IsSchedule : World → List Event → Type 0
IsSchedule w [] = Unit {0}
IsSchedule w (e ∷ events) = May w e × IsSchedule (after w e) events
