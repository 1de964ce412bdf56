-- What a worker is given, and what it gives back.
use Rattle.std.specs.Prelude.{◌≡◌, ◌⊎◌, ℕ, true, false, List, [], ◌++◌, length, take, vec_items, Option, Some, None}
use Rattle.rrv_model.specs.declared.record.Record.{Record}
use Rattle.rrv_model.specs.declared.machine.GuestEnd.{GuestEnd}
use Rattle.rrv_model.specs.declared.sink.Sink as sinks
use Rattle.rrv_model.specs.Elf.{refusal}
use Rattle.outcomes.specs.Failures.{HasFailed}
use Rattle.rrv_model.specs.Opening.{IsName}
use Rattle.rrv_model.specs.Output.{Chunk, spread}
use Rattle.rrv_model.specs.Recording.{EndsIn, items_of}
use Rattle.rrv_model.specs.State.{State}
use Rattle.rrv_model.specs.StateAt.{total}
use Rattle.guest_calls.specs.Guest.{GuestValue, state_of}
use Rattle.serial_sched.specs.declared.chooser.Chooser as choosers
use Rattle.commit_core.specs.Runs.{ItemsPut, IsOutput}
use Rattle.recorder.specs.Recorded.{IsFirst, IsRecorded, opening_of}
use Rattle.faults.specs.declared.session.SessionFault.{SessionFault}
use Rattle.faults.specs.declared.session.SessionFault.TheVariants as faults
use Rattle.session.specs.declared.job.Job.{Job}
use Rattle.session.specs.declared.task.Task.{Task}
use Rattle.session.specs.declared.task.Worked.{Worked}
use Rattle.session.specs.Chosen.{HasChosen, HasChosenOn, IsLeftWith, LeavesChooser, frames_in}

-- what a type of sinks, and what one of choosers, says of each
abbrev pub Sinks : Type 0 → Type 1
Sinks S = sinks.Ghosts S

abbrev pub Choosers : Type 0 → Type 1
Choosers C = choosers.Ghosts C

-- ---- what was recorded

-- the job's opening, as the first record of this guest
abbrev pub opening_for : {C O S : Type 0} → ℕ → Job C O S → Record
opening_for guest job = opening_of guest job.version (vec_items job.elf) (vec_items job.name) job.random

-- the job stays, but for what its chooser, its environment and its sink become
pub record IsSameJob {C O S : Type 0} (old new : Job C O S) : Type 0 where
  pub version : new.version ≡ old.version
  pub elf : vec_items new.elf ≡ vec_items old.elf
  pub name : vec_items new.name ≡ vec_items old.name
  pub random : new.random ≡ old.random
  pub every : new.every ≡ old.every

-- the records of this guest are a recording, its opening's first, that ends in this state
pub record IsRecordedFrom (opening : Record) (guest : ℕ) (records : List Record) (s : State) : Type 0 where
  pub opens : IsFirst opening records
  pub recorded : IsRecorded guest records s

-- there is no record, or they are such a recording
abbrev pub IsBegun : Record → ℕ → List Record → Type 0
IsBegun opening guest records = (records ≡ []) ⊎ ((s : State) × IsRecordedFrom opening guest records s)

-- a sink that tells its bytes took these, and no others
abbrev pub Takes : {S : Type 0} → Sinks S → S → S → List (ℕ × ℕ) → Type 0
Takes sinks old new put = sinks.tells old → sinks.taken new ≡ sinks.taken old ++ put

-- these bytes are all that the records put out
abbrev pub IsAllOutput : List (ℕ × ℕ) → List Record → Type 0
IsAllOutput put records = (chunks : List Chunk) × ItemsPut (items_of records) chunks × (put ≡ spread chunks)

-- The guest was recorded up to where it ended so. It did not end only where its chooser has no choice left, or it has as
-- many records as it may have.
pub record IsToItsEnd {C O S : Type 0} (choosers : Choosers C) (opening : Record) (guest : ℕ) (records : List Record)
    (put : List (ℕ × ℕ)) (end : Option GuestEnd) (job : Job C O S) : Type 0 where
  pub state : State
  pub recorded : IsRecordedFrom opening guest records state
  pub end_is : end ≡ state.ended
  pub output : IsAllOutput put records
  pub goes_on : end ≡ None → choosers.is_done job.chooser ⊎ (length records ≡ 4294967295)

-- ---- a worker

-- nothing was sent, and the seat did not leave; a guest starts from the job's file and name
pub record IsFresh {C O S : Type 0} (task : Task C O S) : Type 0 where
  pub sent : task.seat.sent ≡ []
  pub seen : task.seat.seen ≡ 0
  pub here : task.seat.has_left ≡ false
  pub accepted : refusal (vec_items task.job.elf) ≡ None
  pub is_name : IsName (vec_items task.job.name)

-- what a worker of this guest may meet
abbrev pub IsMet : ℕ → SessionFault → Type 0
IsMet guest fault = (fault ≡ faults.SinkFailed guest) ⊎ ((fault ≡ faults.Held guest) ⊎ (fault ≡ faults.Memory))

-- How often a sink had refused before and after a worker's work: a refusal that it met is one, and there is no other.
abbrev pub FaultTellsSink : Option SessionFault → ℕ → ℕ → Type 0
FaultTellsSink None old new = new ≡ old
FaultTellsSink (Some (faults.SinkFailed guest)) old new = HasFailed old new
FaultTellsSink (Some faults.DeviceFailed) old new = new ≡ old
FaultTellsSink (Some (faults.Held guest)) old new = new ≡ old
FaultTellsSink (Some faults.Memory) old new = new ≡ old
FaultTellsSink (Some faults.TooManyGuests) old new = new ≡ old
FaultTellsSink (Some faults.StoreFull) old new = new ≡ old
FaultTellsSink (Some (faults.BadOpening guest)) old new = new ≡ old
FaultTellsSink (Some (faults.NeedsMark guest)) old new = new ≡ old

abbrev pub AreMet : ℕ → Option SessionFault → Type 0
AreMet guest None = Unit {0}
AreMet guest (Some fault) = IsMet guest fault

-- The frames of these records are chosen by the job's chooser, up to where the guest ended so. The chooser that they lead to
-- is that of the job then, or had no choice left when the job's was made of it.
abbrev pub HasChosenAll : {C O S : Type 0} → Choosers C → (old new : Job C O S) → List Record → Option GuestEnd → Type 0
HasChosenAll choosers old new records end =
    HasChosen choosers.chooses old records (λ s last. (end ≡ s.ended) × IsLeftWith choosers.chooses new.chooser s last)

-- the guest is in the state behind these records, and ran the steps of their frames
pub record IsBehind (records : List Record) (guest : GuestValue) : Type 0 where
  pub ends : EndsIn (items_of records) (state_of guest)
  pub ran : guest.ran ≡ total (frames_in records)

-- all is sent, and seen to be durable, and the guest is recorded to its end, and comes back as it is then
pub record HasFinished {C O S : Type 0} (choosers : Choosers C) (old : Job C O S) (put : List (ℕ × ℕ)) (new : Worked C O S)
    : Type 0 where
  pub seen : new.seat.seen ≡ length new.seat.sent
  pub whole : IsToItsEnd choosers (opening_for new.seat.guest new.job) new.seat.guest new.seat.sent put new.end new.job
  pub chosen : HasChosenAll choosers old new.job new.seat.sent new.end
  pub guest : GuestValue
  pub guest_is : new.guest ≡ Some guest
  pub behind : IsBehind new.seat.sent guest

-- it found the group halted, and all output of the records that it saw to be durable has left
pub record HasStopped {C O S : Type 0} (put : List (ℕ × ℕ)) (new : Worked C O S) : Type 0 where
  pub knows : new.seat.knows_halt ≡ true
  pub output : IsAllOutput put (take new.seat.seen new.seat.sent)

-- The seat and the job are the same, and the seat has left. What was sent is nothing, or a recording of the job's opening,
-- whose frames the job's chooser chose, with those that were not sent. The sink took a beginning of the output of those
-- records that were seen to be durable. The guest is recorded to its end, unless the worker met a fault or found the group
-- halted.
pub record HasWorked {C O S : Type 0} (choosers : Choosers C) (sinks : Sinks S)
    (old : Task C O S) (new : Worked C O S) : Type 0 where
  pub group : new.seat.group ≡ old.seat.group
  pub guest : new.seat.guest ≡ old.seat.guest
  pub left : new.seat.has_left ≡ true
  pub job : IsSameJob old.job new.job
  pub sent : IsBegun (opening_for new.seat.guest new.job) new.seat.guest new.seat.sent
  pub chosen : HasChosenOn choosers.chooses old.job new.seat.sent
      (LeavesChooser choosers.chooses new.fault new.job.chooser)
  pub put : List (ℕ × ℕ)
  pub takes : Takes sinks old.job.sink new.job.sink put
  pub output : IsOutput put (take new.seat.seen new.seat.sent)
  pub sink : FaultTellsSink new.fault (sinks.faults old.job.sink) (sinks.faults new.job.sink)
  pub faults : AreMet new.seat.guest new.fault
  pub finished : new.fault ≡ None → HasStopped put new ⊎ HasFinished choosers old.job put new
