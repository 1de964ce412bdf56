-- What the slice of a choice does.
use Rattle.std.specs.Prelude.{◌≡◌, ℕ, ◌^◌, ◌<◌, ◌≤◌, ◌⊎◌, Bool, true, false, List, Option, None, IfNone, IfSome, IsSome}
use Rattle.rrv_model.specs.declared.limits.TheConstants.{MAX_QUANTUM, MIN_QUANTUM}
use Rattle.rrv_model.specs.declared.record.Choice.{Choice}
use Rattle.rrv_model.specs.declared.record.End.{End}
use Rattle.rrv_model.specs.declared.record.End.TheVariants.{Call}
use Rattle.rrv_model.specs.declared.record.Frame.{Frame}
use Rattle.rrv_model.specs.State.{State, thread_at, IsRunning, IsTimed}
use Rattle.rrv_model.specs.Step.{CallsFrom, ThreadMayStore, ThreadMayTakeMemory}
use Rattle.rrv_model.specs.FrameStep.{Steps, FrameStep}
use Rattle.rrv_model.specs.Ends.{call_in, runs_thread, is_preempt, is_expiry}
use Rattle.rrv_model.specs.Output.{Chunk, FramePuts}
use Rattle.rrv_model.specs.RecordText.{HasFrameText}
use Rattle.guest_calls.specs.declared.put.Put.{Put}
use Rattle.guest_calls.specs.Growth.{CallMayGrow}
use Rattle.guest_calls.specs.Guest.{GuestValue, HasRunning, HasTimed, chunks_of, counted, state_of}
use Rattle.guest_calls.specs.Snapshots.{guest_snapshots}
use Rattle.serial_sched.specs.Asking.{FrameAsks, FrameIsAnswered, Gives}
use Rattle.serial_sched.specs.declared.fault.SliceFault.{SliceFault}
use Rattle.serial_sched.specs.declared.fault.SliceFault.TheVariants as faults

-- the thread's next instruction makes a call that may take memory
pub record CallsToGrow (s : State) (tid : ℕ) : Type 0 where
  pub called : State
  pub calls : CallsFrom s tid called
  pub grows : CallMayGrow called tid (thread_at called tid)

-- it stores, or makes such a call
abbrev pub NextMayGrow : State → ℕ → Type 0
NextMayGrow s tid = ThreadMayStore s tid ⊎ CallsToGrow s tid

-- so many steps of the thread lead to where its next instruction is a STORE, SC, AMO or ECALL, and may take memory
pub record FindsNoMemory (old : State) (tid count : ℕ) : Type 0 where
  pub last : State
  pub steps : Steps count tid old last
  pub takes : ThreadMayTakeMemory last tid
  pub grows : NextMayGrow last tid

-- a thread is preempted after the whole quantum, or before it where its next instruction found no memory
abbrev pub IsWhole : State → ℕ → ℕ → ℕ → Type 0
IsWhole old tid count quantum = (count ≡ quantum) ⊎ ((count < quantum) × FindsNoMemory old tid count)

-- the frame is one of the chosen thread and within the quantum, unless no thread ran; whole if that was preempted
abbrev pub FitsIf : (thread preempt : Bool) → State → Frame → Choice → Type 0
FitsIf false preempt old f choice = Unit {0}
FitsIf true true old f choice = (f.tid ≡ choice.tid) × IsWhole old f.tid f.count choice.quantum
FitsIf true false old f choice = (f.tid ≡ choice.tid) × (f.count ≤ choice.quantum)

-- so by how it ended: no slice ends a wait
abbrev pub FitsChoice : End → State → Frame → Choice → Type 0
FitsChoice end old f choice = (is_expiry end ≡ false) × FitsIf (runs_thread end) (is_preempt end) old f choice

-- what a call put out is what the frame puts out
abbrev pub CallPuts : End → State → Frame → List Chunk → Type 0
CallPuts end old f chunks = IfSome (call_in end) (λ r. FramePuts old f (Call r) chunks)

-- a frame that ends in no call keeps what the last call put out
abbrev pub KeepsPut : End → Option Put → Option Put → Type 0
KeepsPut end old new = IfNone (call_in end) (new ≡ old)

-- the quantum is within the limits
abbrev pub IsQuantum : ℕ → Type 0
IsQuantum quantum = (MIN_QUANTUM ≤ quantum) × (quantum ≤ MAX_QUANTUM)

-- the guest hasn't ended, and some thread runs
abbrev pub IsLive : State → Type 0
IsLive s = (s.ended ≡ None) × HasRunning s

-- the guest hasn't ended, no thread runs, and some wait has a timeout
pub record IsAsleep (s : State) : Type 0 where
  pub runs : s.ended ≡ None
  pub none_running : ¬ HasRunning s
  pub timed : HasTimed s

-- the chosen thread runs, in a guest that hasn't ended
pub record CanRun (old : State) (choice : Choice) : Type 0 where
  pub runs : old.ended ≡ None
  pub tid : (1 ≤ choice.tid) × (choice.tid < 2 ^ 32)
  pub running : IsRunning (thread_at old choice.tid)
  pub quantum : IsQuantum choice.quantum

-- The frame, whoever made it, leads from one guest to the other: it has a text, its instructions are counted, only a call
-- puts out, and the snapshots stay.
pub record IsFrameOf (old : GuestValue) (f : Frame) (new : GuestValue) : Type 0 where
  pub frame : FrameStep (state_of old) f (state_of new)
  pub text : HasFrameText f.end f.tid f.count
  pub puts : CallPuts f.end (state_of old) f (chunks_of new.put)
  pub keeps : KeepsPut f.end old.put new.put
  pub ran : new.ran ≡ counted old.ran f.count
  pub snapshots : guest_snapshots new ≡ guest_snapshots old

-- The frame is the slice of this choice. It leads from one guest to the other, and from one state of
-- the environment to another, which is asked by the frame's call alone.
pub record IsSliceOf {O : Type 0} (gives : Gives O) (old : GuestValue) (choice : Choice) (f : Frame) (new : GuestValue)
    (before after : O) : Type 0 where
  pub is_frame : IsFrameOf old f new
  pub fits : FitsChoice f.end (state_of old) f choice
  pub answered : FrameIsAnswered gives f.end (state_of old) f.tid f.count before after
  pub unasked : ¬ FrameAsks f.end (state_of old) f.tid f.count → after ≡ before

-- nothing that shows of a guest has changed, nor has the environment
pub record IsUntouched {O : Type 0} (old new : GuestValue) (before after : O) : Type 0 where
  pub state : state_of new ≡ state_of old
  pub ran : new.ran ≡ old.ran
  pub put : new.put ≡ old.put
  pub snapshots : guest_snapshots new ≡ guest_snapshots old
  pub environment : after ≡ before

-- why a thread's wait isn't ended: the guest has ended, else the thread doesn't wait with a timeout
abbrev pub RefusesExpiry : State → ℕ → SliceFault → Type 0
RefusesExpiry s tid faults.Ended = IsSome s.ended
RefusesExpiry s tid faults.NotTimed = (s.ended ≡ None) × ¬ IsTimed (thread_at s tid)
RefusesExpiry s tid faults.NotRunnable = ⊥
RefusesExpiry s tid faults.BadQuantum = ⊥
RefusesExpiry s tid faults.Memory = ⊥
RefusesExpiry s tid faults.Waiting = ⊥
