-- Where the steps of a frame lead.
use Rattle.std.specs.Prelude.{◌≡◌, ℕ, ◌-◌, ◌<◌, ◌≤◌, ◌⊎◌, MatchBool, MatchOption, None, Result, Ok, Err}
use Rattle.rrv_model.specs.declared.limits.TheConstants.{MAX_QUANTUM}
use Rattle.rrv_model.specs.declared.machine.FaultKind.{FaultKind}
use Rattle.rrv_model.specs.declared.record.End.{End}
use Rattle.rrv_model.specs.declared.record.Frame.{Frame}
use Rattle.rrv_model.specs.State.{State, thread_at}
use Rattle.rrv_model.specs.Step.{CallsFrom, FaultsFrom, ThreadMayStore}
use Rattle.rrv_model.specs.FrameStep.{FrameStepBy, Steps}
use Rattle.rrv_model.specs.Ends.{call_in, runs_thread}
use Rattle.rv_machine.specs.declared.run.RunEnd.{RunEnd}
use Rattle.rv_machine.specs.declared.run.RunEnd.TheVariants.{Limit, Call, Fault, Memory}
use Rattle.guest_calls.specs.Growth.{CallMayGrow}
use Rattle.serial_sched.specs.declared.fault.FollowFault.{FollowFault}
use Rattle.serial_sched.specs.declared.fault.FollowFault.TheVariants as follow_faults

-- the last of so many instructions is a call
pub record ReachesCall (count tid : ℕ) (old new : State) : Type 0 where
  pub some : 1 ≤ count
  pub before : State
  pub steps : Steps (count - 1) tid old before
  pub calls : CallsFrom before tid new

-- the last of so many instructions is a fault
pub record ReachesFault (count tid : ℕ) (kind : FaultKind) (old new : State) : Type 0 where
  pub some : 1 ≤ count
  pub steps : Steps (count - 1) tid old new
  pub faults : FaultsFrom new tid kind

-- the thread runs so many instructions, the last of which ends so
abbrev pub Reaches : RunEnd → ℕ → ℕ → State → State → Type 0
Reaches Limit count tid old new = Steps count tid old new
Reaches Call count tid old new = ReachesCall count tid old new
Reaches (Fault kind) count tid old new = ReachesFault count tid kind old new
Reaches Memory count tid old new = ⊥

-- one of the thread's first so many instructions stores, and finds no memory
pub record MeetsNoMemory (old : State) (tid count : ℕ) : Type 0 where
  pub done : ℕ
  pub within : done < count
  pub last : State
  pub steps : Steps done tid old last
  pub stores : ThreadMayStore last tid

-- the last of so many instructions is a call that finds no memory
pub record CallMeetsNoMemory (old : State) (tid count : ℕ) : Type 0 where
  pub called : State
  pub reaches : ReachesCall count tid old called
  pub grows : CallMayGrow called tid (thread_at called tid)

-- so on the way to such an end, of a frame in which a thread ran
abbrev pub EndMeetsNoMemory : End → State → ℕ → ℕ → Type 0
EndMeetsNoMemory end old tid count =
    MatchBool (runs_thread end)
    (MatchOption (call_in end) (MeetsNoMemory old tid count)
    (λ _. MeetsNoMemory old tid count ⊎ CallMeetsNoMemory old tid count))
    ⊥

-- what following a frame of such an end comes to: the state that it leads to, or why there is none
abbrev pub Follows : {T : Type 0} → End → State → ℕ → ℕ → Result T FollowFault → State → Type 0
Follows end old tid count (Ok x) new = FrameStepBy end old tid count new
Follows end old tid count (Err follow_faults.GoesNowhere) new =
    (other : State) → FrameStepBy end old tid count other → ⊥
Follows end old tid count (Err follow_faults.Memory) new = EndMeetsNoMemory end old tid count

-- the guest could go on, but one of the frame's instructions finds no memory
pub record FrameMeetsNoMemory (old : State) (f : Frame) : Type 0 where
  pub runs : old.ended ≡ None
  pub limit : f.count ≤ MAX_QUANTUM
  pub meets : EndMeetsNoMemory f.end old f.tid f.count
