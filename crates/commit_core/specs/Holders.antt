-- What each holder does by itself, whatever the others do between its events, and the events of all holders in any order.
use Rattle.std.specs.Prelude.{◌≡◌, ℕ, ◌<◌, ◌==◌, Bool, true, false, if◌then◌else◌, List, [], ◌∷◌, ◌++◌, length, map}
use Rattle.rrv_model.specs.declared.limits.TheConstants.{QUEUE_ITEMS}
use Rattle.rrv_model.specs.declared.record.Record.{Record}
use Rattle.commit_core.specs.World.{World, IsStart}
use Rattle.commit_core.specs.Events.{Event, IsSchedule, May, after, left_place, run}
use Rattle.commit_core.specs.Events.Event.{Slice, Push, Look, Release, LookHalt, Leave, Pop, LookLeft}
use Rattle.commit_core.specs.Headline.{IsSafe}

-- ---- whose it is

pub data Holder : Type 0 where
  TheRecorder : (g : ℕ) → Holder
  TheFlusher : Holder

abbrev pub holder : Event → Holder
holder (Slice g r s) = TheRecorder g
holder (Push g r rest) = TheRecorder g
holder (Look g) = TheRecorder g
holder (Release g more) = TheRecorder g
holder (LookHalt g) = TheRecorder g
holder (Leave g) = TheRecorder g
holder _ = TheFlusher

abbrev pub is_same : Holder → Holder → Bool
is_same (TheRecorder g) (TheRecorder k) = g == k
is_same TheFlusher TheFlusher = true
is_same _ _ = false

-- Two worlds in which a holder's part is the same. The queue and the words are in nobody's part.
pub record IsSameForRecorder (g : ℕ) (w w' : World) : Type 0 where
  pub guests : w'.guests ≡ w.guests
  pub first_guest : w'.first_guest ≡ w.first_guest
  pub recorder : w'.recorders g ≡ w.recorders g

pub record IsSameForFlusher (w w' : World) : Type 0 where
  pub guests : w'.guests ≡ w.guests
  pub first_guest : w'.first_guest ≡ w.first_guest
  pub bodies : w'.bodies ≡ w.bodies
  pub flusher : w'.flusher ≡ w.flusher
  pub disk : w'.disk ≡ w.disk

abbrev pub IsSameFor : Holder → World → World → Type 0
IsSameFor (TheRecorder g) w w' = IsSameForRecorder g w w'
IsSameFor TheFlusher w w' = IsSameForFlusher w w'

-- ---- what it does

-- An event as its holder knows it, and the word that it loads, or 0. Of the queue it knows the record that it takes.
pub record Act : Type 0 where
  pub event : Event
  pub word : ℕ

abbrev pub known : Event → Event
known (Pop r rest) = Pop r []
known e = e

abbrev pub loads : World → Event → ℕ
loads w (Look g) = w.words g
loads w (LookHalt g) = w.words w.guests
loads w (LookLeft g) = w.words (left_place w g)
loads w _ = 0

-- an event that loads nothing, and one that loads this word
abbrev pub plain : Event → Act
plain e = record { event = e; word = 0 }

abbrev pub loading : Event → ℕ → Act
loading e word = record { event = e; word = word }

-- what it does among these events
abbrev pub acts : Holder → World → List Event → List Act
acts h w [] = []
acts h w (e ∷ events) =
    let later = acts h (after w e) events in
    if is_same (holder e) h then loading (known e) (loads w e) ∷ later else later

-- The holder may do this, one act after another, and its part is then that of the end. Before each act there are some queue,
-- words and parts of others with which it may happen, and loads its word.
abbrev pub IsOwnRun : Holder → World → List Act → World → Type 0
IsOwnRun h w [] end = IsSameFor h w end
IsOwnRun h w (a ∷ later) end =
    (v : World) × IsSameFor h w v × May v a.event × (loads v a.event ≡ a.word) × IsOwnRun h (after v a.event) later end

-- these records are received one after another, of a queue that has the rest behind them; and so its holder knows it
abbrev pub pops : List Record → List Record → List Event
pops [] rest = []
pops (r ∷ more) rest = Pop r (more ++ rest) ∷ pops more rest

abbrev pub receives : List Record → List Act
receives more = map (λ r. plain (Pop r [])) more

abbrev pub PopsAreReceived : Type 0
PopsAreReceived = (w : World) (more rest : List Record) → acts TheFlusher w (pops more rest) ≡ receives more

-- it may do this, and then this holds of every world that has its part
abbrev pub Does : Holder → List Act → (World → Type 0) → World → Type 0
Does h doing Holds w = (end : World) × IsOwnRun h w doing end × ((v : World) → IsSameFor h end v → Holds v)

-- what one holder does in a row
abbrev pub RowsAreOwnRuns : Type 0
RowsAreOwnRuns = (h : Holder) (w between end : World) (first last : List Act)
    → IsOwnRun h w first between → IsOwnRun h between last end → IsOwnRun h w (first ++ last) end

-- and what it did of that when it was stopped
abbrev pub BeginningsAreOwnRuns : Type 0
BeginningsAreOwnRuns = (h : Holder) (w end : World) (first last : List Act)
    → IsOwnRun h w (first ++ last) end → (between : World) × IsOwnRun h w first between

-- ---- all of them

-- the queue has room for a record that is sent, and gives the one that is received
abbrev pub Finds : World → Event → Type 0
Finds w (Push g r rest) = length w.queue < QUEUE_ITEMS
Finds w (Pop r rest) = w.queue ≡ r ∷ rest
Finds w _ = Unit {0}

abbrev pub AllFind : World → List Event → Type 0
AllFind w [] = Unit {0}
AllFind w (e ∷ events) = Finds w e × AllFind (after w e) events

-- If each holder by itself may do what it does among these events, and each event finds what it needs in the queue, then the
-- events are a schedule, and behind them each holder's part is what it is by itself.
abbrev pub OwnRunsAreSchedules : Type 0
OwnRunsAreSchedules = (w : World) (events : List Event) (end : Holder → World)
    → ((h : Holder) → IsOwnRun h w (acts h w events) (end h)) → AllFind w events
    → IsSchedule w events × ((h : Holder) → IsSameFor h (end h) (run w events))

-- And what began as a session does is safe after each beginning of them.
abbrev pub OwnRunsAreSafe : Type 0
OwnRunsAreSafe = (start : World) (old : List Record) (events : List Event) (end : Holder → World) → IsStart start old
    → ((h : Holder) → IsOwnRun h start (acts h start events) (end h)) → AllFind start events
    → (front behind : List Event) → front ++ behind ≡ events → IsSafe (run start front) old
