-- How a worker drives its guest's recorder.
use Rattle.std.specs.Prelude.{◌≡◌, ◌⊎◌, ◌↔◌, ℕ, ◌+◌, ◌≤◌, true, Option, None, Some, List, [], ◌++◌, length, IsSome, Result, Ok, Err}
use Rattle.rrv_model.specs.declared.record.Record.{Record}
use Rattle.outcomes.specs.Failures.{HasFailed}
use Rattle.guest_calls.specs.Guest.{state_of}
use Rattle.recorder.specs.declared.fault.RecorderFault.{RecorderFault}
use Rattle.recorder.specs.declared.fault.RecorderFault.TheVariants as faults
use Rattle.recorder.specs.Recorders.{GuestRecorder, HasPut, IsSettled, made}
use Rattle.faults.specs.declared.session.SessionFault.{SessionFault}
use Rattle.faults.specs.declared.session.SessionFault.TheVariants as session_faults
use Rattle.session.specs.declared.job.Job.{Job}
use Rattle.session.specs.declared.task.Worked.{Worked}
use Rattle.session.specs.declared.rounds.Step.{Step}
use Rattle.session.specs.declared.rounds.Step.TheVariants as turns
use Rattle.session.specs.declared.rounds.WorkFault.{WorkFault}
use Rattle.session.specs.declared.rounds.WorkFault.TheVariants as work_faults
use Rattle.session.specs.Works.{Choosers, IsRecordedFrom, Sinks, Takes}

-- what the recorder made is a recording from this opening, and these bytes have left of it
pub record IsDriven (opening : Record) (r : GuestRecorder) (out : List (ℕ × ℕ)) : Type 0 where
  pub recorded : IsRecordedFrom opening r.seat.guest (made r) (state_of r.guest)
  pub has_put : HasPut r out

-- the seat stays the same guest's, and a recording from an opening stays one, of which these bytes more have left
pub record GoesOn (old new : GuestRecorder) (put : List (ℕ × ℕ)) : Type 0 where
  pub group : new.seat.group ≡ old.seat.group
  pub guest : new.seat.guest ≡ old.seat.guest
  pub driven : (opening : Record) (out : List (ℕ × ℕ)) → IsDriven opening old out → IsDriven opening new (out ++ put)

-- and a sink that tells its bytes took them, and no others
pub record Drives {S : Type 0} (sinks : Sinks S) (old new : GuestRecorder) (sink sink' : S) : Type 0 where
  pub put : List (ℕ × ℕ)
  pub takes : Takes sinks sink sink' put
  pub goes : GoesOn old new put
  pub tells : sinks.tells sink' ↔ sinks.tells sink

-- there is no frame to make: the guest has ended, its chooser has no choice left, or it has as many records as it may have
abbrev pub IsOver : {C : Type 0} → Choosers C → GuestRecorder → C → Type 0
IsOver choosers r chooser =
    IsSome (state_of r.guest).ended ⊎ (choosers.is_done chooser ⊎ (length (made r) ≡ 4294967295))

-- it knows of a halt, and all output that was seen to be durable has left
pub record HasHalted (r : GuestRecorder) : Type 0 where
  pub knows : r.seat.knows_halt ≡ true
  pub left : r.seat.seen ≤ r.owed.released

-- all that was made is sent, or it knows of a halt
abbrev pub HasSent : GuestRecorder → Type 0
HasSent r = (r.backlog ≡ []) ⊎ (r.seat.knows_halt ≡ true)

-- how often in a row the gate refused a step, behind this turn
abbrev pub next_held : Step → ℕ → ℕ
next_held turns.Stepped held = 0
next_held turns.Held held = held + 1
next_held turns.Waits held = held
next_held turns.Asleep held = held
next_held turns.Over held = 0

-- how a worker tells why its recorder didn't go on
abbrev pub work_told : RecorderFault → WorkFault
work_told faults.Halted = work_faults.Halted
work_told (faults.SinkFailed taken) = work_faults.SinkFailed
work_told faults.Full = work_faults.Memory
work_told faults.Memory = work_faults.Memory
work_told (faults.Refused fault) = work_faults.Memory
work_told faults.TooManyRecords = work_faults.Memory
work_told faults.BadOpening = work_faults.Memory

-- what a session tells of a worker's fault; of a halt the flusher tells
abbrev pub fault_told : ℕ → WorkFault → Option SessionFault
fault_told guest work_faults.Halted = None
fault_told guest work_faults.SinkFailed = Some (session_faults.SinkFailed guest)
fault_told guest work_faults.Held = Some (session_faults.Held guest)
fault_told guest work_faults.Memory = Some session_faults.Memory

-- how often a sink had refused before and after a worker's call: a refusal that is told is one, and there is no other
abbrev pub WorkTellsSink : Result Unit WorkFault → ℕ → ℕ → Type 0
WorkTellsSink (Ok done) old new = new ≡ old
WorkTellsSink (Err work_faults.Halted) old new = new ≡ old
WorkTellsSink (Err work_faults.SinkFailed) old new = HasFailed old new
WorkTellsSink (Err work_faults.Held) old new = new ≡ old
WorkTellsSink (Err work_faults.Memory) old new = new ≡ old

-- the same of a recorder's call
abbrev pub CallTellsSink : Result Unit RecorderFault → ℕ → ℕ → Type 0
CallTellsSink (Ok done) old new = new ≡ old
CallTellsSink (Err (faults.SinkFailed taken)) old new = HasFailed old new
CallTellsSink (Err faults.Halted) old new = new ≡ old
CallTellsSink (Err faults.Full) old new = new ≡ old
CallTellsSink (Err faults.Memory) old new = new ≡ old
CallTellsSink (Err (faults.Refused fault)) old new = new ≡ old
CallTellsSink (Err faults.TooManyRecords) old new = new ≡ old
CallTellsSink (Err faults.BadOpening) old new = new ≡ old

-- ---- the end of a worker

-- there is no frame to make, and all that was made is sent and durable, and its output has left
pub record IsDone {C : Type 0} (choosers : Choosers C) (r : GuestRecorder) (chooser : C) : Type 0 where
  pub over : IsOver choosers r chooser
  pub settled : IsSettled r

-- the recorder's seat leaves, with the job, the guest, how it ended, and what the worker met
pub record LeavesWith {C O S : Type 0} (r : GuestRecorder) (job : Job C O S) (fault : Option SessionFault)
    (worked : Worked C O S) : Type 0 where
  pub is : worked ≡ record {
    seat = record r.seat { has_left = true };
    job = job;
    guest = Some r.guest;
    end = (state_of r.guest).ended;
    fault = fault;
  }
  pub seen : r.seat.seen ≤ length r.seat.sent
