-- Which choices lie behind a job's frames.
use Rattle.std.specs.Prelude.{◌≡◌, ◌⊎◌, ◌+◌, ◌<◌, ◌^◌, List, [], ◌++◌, Option, None, Some, Result, Ok, Err, vec_items}
use Rattle.rrv_model.specs.declared.record.Choice.{Choice}
use Rattle.rrv_model.specs.declared.record.Frame.{Frame}
use Rattle.rrv_model.specs.declared.record.Record.{Record}
use Rattle.rrv_model.specs.Opening.{opening_state}
use Rattle.rrv_model.specs.Recording.{frames_of, items_of}
use Rattle.rrv_model.specs.State.{State}
use Rattle.rrv_model.specs.StateAt.{total}
use Rattle.guest_calls.specs.Guest.{state_of}
use Rattle.serial_sched.specs.Chosen.{Choosing, AreMade, Picks}
use Rattle.recorder.specs.Recorders.{GuestRecorder, HasRecorded, made}
use Rattle.faults.specs.declared.session.SessionFault.{SessionFault}
use Rattle.faults.specs.declared.session.SessionFault.TheVariants as faults
use Rattle.session.specs.declared.job.Job.{Job}
use Rattle.session.specs.declared.rounds.Step.{Step}
use Rattle.session.specs.declared.rounds.Step.TheVariants as turns
use Rattle.session.specs.declared.rounds.WorkFault.{WorkFault}
use Rattle.session.specs.declared.rounds.WorkFault.TheVariants as work_faults

-- the frames among the records
abbrev pub frames_in : List Record → List Frame
frames_in records = frames_of (items_of records)

-- where a job's guest starts
abbrev pub start_of : {C O S : Type 0} → Job C O S → State
start_of job = opening_state job.version (vec_items job.elf) (vec_items job.name) job.random

-- it is the same chooser, but where it was asked once more in this state, and had no choice left
abbrev pub IsLeftWith : {C : Type 0} → Choosing C → (new : C) → State → (last : C) → Type 0
IsLeftWith chooses new s last = (new ≡ last) ⊎ Picks chooses s last None new

-- it is the same chooser, but where it was asked once more in this state
abbrev pub IsAskedOnce : {C : Type 0} → Choosing C → (new : C) → State → (last : C) → Type 0
IsAskedOnce chooses new s last = (new ≡ last) ⊎ ((choice : Option Choice) × Picks chooses s last choice new)

-- What a worker leaves of the chooser that its frames lead to, by what it met. A choice is lost by the end of a wait, which is a
-- frame, and else only for want of memory.
abbrev pub LeavesChooser : {C : Type 0} → Choosing C → Option SessionFault → (new : C) → State → (last : C) → Type 0
LeavesChooser chooses None new s last = IsLeftWith chooses new s last
LeavesChooser chooses (Some faults.DeviceFailed) new s last = IsLeftWith chooses new s last
LeavesChooser chooses (Some (faults.SinkFailed guest)) new s last = IsLeftWith chooses new s last
LeavesChooser chooses (Some (faults.Held guest)) new s last = new ≡ last
LeavesChooser chooses (Some faults.Memory) new s last = IsAskedOnce chooses new s last
LeavesChooser chooses (Some faults.TooManyGuests) new s last = IsLeftWith chooses new s last
LeavesChooser chooses (Some faults.StoreFull) new s last = IsLeftWith chooses new s last
LeavesChooser chooses (Some (faults.BadOpening guest)) new s last = IsLeftWith chooses new s last
LeavesChooser chooses (Some (faults.NeedsMark guest)) new s last = IsLeftWith chooses new s last

-- so by what its rounds came to
abbrev pub WorkLeaves : {C : Type 0} → Choosing C → Result Unit WorkFault → (new : C) → State → (last : C) → Type 0
WorkLeaves chooses (Ok done) new s last = IsLeftWith chooses new s last
WorkLeaves chooses (Err work_faults.Halted) new s last = IsLeftWith chooses new s last
WorkLeaves chooses (Err work_faults.SinkFailed) new s last = IsLeftWith chooses new s last
WorkLeaves chooses (Err work_faults.Held) new s last = new ≡ last
WorkLeaves chooses (Err work_faults.Memory) new s last = IsAskedOnce chooses new s last

-- The frames of these records are the slices of what the job's chooser chose, from the guest's start on, but for ends of waits, by
-- each of which a choice is lost; a guest of version 1 has none. So is what this says of the state and the chooser that they lead to.
pub record HasChosen {C O S : Type 0} (chooses : Choosing C) (job : Job C O S) (records : List Record)
    (Ends : State → C → Type 0) : Type 0 where
  pub state : State
  pub last : C
  pub chosen : AreMade chooses (start_of job) job.chooser (frames_in records) state last
  pub ends : Ends state last

-- So are the frames of these records, and some that were made behind them.
pub record HasChosenOn {C O S : Type 0} (chooses : Choosing C) (job : Job C O S) (records : List Record)
    (Ends : State → C → Type 0) : Type 0 where
  pub behind : List Frame
  pub state : State
  pub last : C
  pub chosen : AreMade chooses (start_of job) job.chooser (frames_in records ++ behind) state last
  pub ends : Ends state last

-- the frames that a recorder made are those that the chooser chose, but for ends of waits, by each of which a choice is lost; its guest
-- counts their steps as far as it can; this is so of the chooser that they lead to
pub record MakesChosen {C : Type 0} (chooses : Choosing C) (old : GuestRecorder) (chooser : C) (new : GuestRecorder)
    (Ends : C → Type 0) : Type 0 where
  pub frames : List Frame
  pub made_are : frames_in (made new) ≡ frames_in (made old) ++ frames
  pub last : C
  pub chosen : AreMade chooses (state_of old.guest) chooser frames (state_of new.guest) last
  pub ran : old.guest.ran + total frames < 2 ^ 64 → new.guest.ran ≡ old.guest.ran + total frames
  pub ends : Ends last

-- what a turn leaves of the chooser that its frames lead to
abbrev pub TurnLeaves : {C : Type 0} → Choosing C → Step → (new : C) → State → (last : C) → Type 0
TurnLeaves chooses turns.Over new s last = IsLeftWith chooses new s last
TurnLeaves chooses turns.Stepped new s last = new ≡ last
TurnLeaves chooses turns.Held new s last = new ≡ last
TurnLeaves chooses turns.Waits new s last = new ≡ last
TurnLeaves chooses turns.Asleep new s last = new ≡ last

-- no frame was made, and the guest is where the job's starts
pub record IsAtStart {C O S : Type 0} (job : Job C O S) (r : GuestRecorder) : Type 0 where
  pub none : frames_in (made r) ≡ []
  pub state : state_of r.guest ≡ start_of job
  pub ran : r.guest.ran ≡ 0
  pub recorded : HasRecorded r
