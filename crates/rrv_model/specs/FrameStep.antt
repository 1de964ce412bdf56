-- Frame step: a frame leads from one state to the next by a thread's steps and what ends them, as in rr's record and
-- replay (O'Callahan and others, 2017), with switches at exact instruction counts.
use Rattle.std.specs.Prelude.{◌≡◌, ℕ, zero, suc, ◌-◌, ◌≤◌, Option, Some, None}
use Rattle.rrv_model.specs.declared.limits.TheConstants.{MAX_QUANTUM}
use Rattle.rrv_model.specs.declared.machine.GuestEnd.{GuestEnd}
use Rattle.rrv_model.specs.declared.machine.GuestEnd.TheVariants as guest_ends
use Rattle.rrv_model.specs.declared.record.End.{End}
use Rattle.rrv_model.specs.declared.record.End.TheVariants.{Preempt, Call, Fault, Stuck, Expire}
use Rattle.rrv_model.specs.declared.record.Frame.{Frame}
use Rattle.rrv_model.specs.declared.record.CallRecord.{CallRecord}
use Rattle.rrv_model.specs.declared.machine.FaultKind.{FaultKind}
use Rattle.rrv_model.specs.State.{State, thread_at, IsRunning, IsTimed, IsState}
use Rattle.rrv_model.specs.Step.{StepsTo, CallsFrom, FaultsFrom}
use Rattle.rrv_model.specs.CallRows.{woken}
use Rattle.rrv_model.specs.Calls.{Calls, Answer, results}

-- the thread takes so many steps, none of which is a call or a fault
abbrev pub Steps : ℕ → ℕ → State → State → Type 0
Steps zero tid s after = after ≡ s
Steps (suc n) tid s after = (mid : State) × StepsTo s tid mid × Steps n tid mid after

-- every end of a slice clears the reservation
abbrev pub closed : State → State
closed s = record s { reservation = None }

abbrev pub closed_at_end : GuestEnd → State → State
closed_at_end end s = record s { reservation = None; ended = Some end }

-- the end of a slice, which may end the guest
abbrev pub closed_by : Option GuestEnd → State → State
closed_by None s = closed s
closed_by (Some end) s = closed_at_end end s

pub record Preempts (old : State) (tid count : ℕ) (new : State) : Type 0 where
  pub some : 1 ≤ count
  pub last : State
  pub steps : Steps count tid old last
  pub new_is : new ≡ closed last

pub record EndsInCall (old : State) (tid count : ℕ) (r : CallRecord) (new : State) : Type 0 where
  pub some : 1 ≤ count
  pub before : State
  pub steps : Steps (count - 1) tid old before
  pub called : State
  pub calls : CallsFrom before tid called
  pub answer : Answer
  pub after : State
  pub answered : Calls called tid answer r after
  pub new_is : new ≡ closed after

pub record EndsInFault (old : State) (tid count : ℕ) (kind : FaultKind) (new : State) : Type 0 where
  pub some : 1 ≤ count
  pub before : State
  pub steps : Steps (count - 1) tid old before
  pub faults : FaultsFrom before tid kind
  pub new_is : new ≡ closed_at_end (guest_ends.Faulted kind) before

pub record IsStuck (old : State) (tid count : ℕ) (new : State) : Type 0 where
  pub no_tid : tid ≡ 0
  pub no_step : count ≡ 0
  pub none_running : (t : ℕ) → IsRunning (thread_at old t) → ⊥
  pub none_timed : (t : ℕ) → IsTimed (thread_at old t) → ⊥
  pub new_is : new ≡ closed_at_end guest_ends.Stuck old

-- -ETIMEDOUT
abbrev pub timed_out : ℕ
timed_out = 0xFFFFFF92

-- the thread no longer waits, and its wait has timed out
abbrev pub expired : ℕ → State → State
expired tid s = results tid timed_out (woken s tid)

-- No step is made. That the time has come is not looked at: a replay has no clock.
pub record Expires (old : State) (tid count : ℕ) (new : State) : Type 0 where
  pub no_step : count ≡ 0
  pub timed : IsTimed (thread_at old tid)
  pub new_is : new ≡ closed (expired tid old)

abbrev pub FrameStepBy : End → State → ℕ → ℕ → State → Type 0
FrameStepBy Preempt old tid count new = Preempts old tid count new
FrameStepBy (Call r) old tid count new = EndsInCall old tid count r new
FrameStepBy (Fault kind) old tid count new = EndsInFault old tid count kind new
FrameStepBy Stuck old tid count new = IsStuck old tid count new
FrameStepBy Expire old tid count new = Expires old tid count new

-- the frame leads from old, which hasn't ended, to new
pub record FrameStep (old : State) (frame : Frame) (new : State) : Type 0 where
  pub runs : old.ended ≡ None
  pub limit : frame.count ≤ MAX_QUANTUM
  pub goes : FrameStepBy frame.end old frame.tid frame.count new

-- old and frame leave one new at most
abbrev pub OneStateAfterFrame : Type 0
OneStateAfterFrame =
    (old : State) (frame : Frame) (new new' : State) → FrameStep old frame new → FrameStep old frame new' → new ≡ new'

-- a frame from a state leads to a state
abbrev pub FramesKeepStates : Type 0
FramesKeepStates = (old : State) (frame : Frame) (new : State) → IsState old → FrameStep old frame new → IsState new
