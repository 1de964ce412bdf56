-- How far the thread of a frame runs, by how the frame ended.
use Rattle.std.proofs.Common.{◌≡◌, ℕ, ◌≤◌, Bool, true, false, cond, Option, Some, None, refl, sym, ◌∙◌, ap, subst}
use Rattle.std.specs.Prelude.{MatchOption, if◌then◌else◌}
use Rattle.rrv_model.specs.declared.machine.FaultKind.{FaultKind}
use Rattle.rrv_model.specs.declared.record.CallRecord.{CallRecord}
use Rattle.rrv_model.specs.declared.record.End.{End}
use Rattle.rrv_model.specs.declared.record.End.TheVariants as ends
use Rattle.rrv_model.specs.State.{State, thread_at, IsRunning}
use Rattle.rrv_model.specs.Ends.{call_in, fault_in, runs_thread, is_preempt, is_expiry}
use Rattle.rrv_model.specs.FrameStep.{FrameStepBy}
use Rattle.rrv_model.proofs.Ends.{call_is, no_thread, ran_end, ran_end_is}
use Rattle.rv_machine.specs.declared.run.RunEnd.{RunEnd}
use Rattle.rv_machine.specs.declared.run.RunEnd.TheVariants as run_ends
use Rattle.serial_sched.specs.Follows.{Reaches}
use Rattle.serial_sched.proofs.OneStep.{running_at}

-- ---- the end of a frame's run

-- how a thread's run ends, by what its frame's end says
abbrev run_of : Option CallRecord → Option FaultKind → RunEnd
run_of (Some r) fault = run_ends.Call
run_of None (Some kind) = run_ends.Fault kind
run_of None None = run_ends.Limit

-- so of the end of a frame in which a thread ran; another has the end that none reaches
abbrev pub run_end : End → RunEnd
run_end end = if runs_thread end then run_of (call_in end) (fault_in end) else run_ends.Memory

runs : (end : End) → runs_thread end ≡ true → run_end end ≡ run_of (call_in end) (fault_in end)
runs end some = rw some refl

pub reaches : (end : End) (old : State) (tid count : ℕ) (new : State) → runs_thread end ≡ true → FrameStepBy end old tid count new →
    (1 ≤ count) × (last : State) × Reaches (run_end end) count tid old last
reaches end old tid count new some p =
    subst (λ (x : RunEnd). (1 ≤ count) × (last : State) × Reaches x count tid old last) (sym (runs end some))
    (by (call_in end) (fault_in end) (subst (λ (x : End). FrameStepBy x old tid count new) (sym (ran_end_is end some)) p)) where
      by : (call : Option CallRecord) (fault : Option FaultKind) → FrameStepBy (ran_end call fault) old tid count new →
          (1 ≤ count) × (last : State) × Reaches (run_of call fault) count tid old last
      by (Some r) fault p = (p.some, p.called, record { some = p.some; before = p.before; steps = p.steps; calls = p.calls })
      by None (Some kind) p = (p.some, p.before, record { some = p.some; steps = p.steps; faults = p.faults })
      by None None p = (p.some, p.last, p.steps)

pub limit_is_preempt : (end : End) → run_end end ≡ run_ends.Limit → is_preempt end ≡ true
limit_is_preempt end limit = by (runs_thread end) (call_in end) (fault_in end) (ran_end_is end) limit where
  by : (thread : Bool) (call : Option CallRecord) (fault : Option FaultKind) → (thread ≡ true → ran_end call fault ≡ end) →
      cond thread (run_of call fault) run_ends.Memory ≡ run_ends.Limit → is_preempt end ≡ true
  by false call fault is e = absurd cc
  by true (Some r) fault is e = absurd cc
  by true None (Some kind) is e = absurd cc
  by true None None is e = sym (ap is_preempt (is refl))

-- ---- whether a thread ran in a frame

-- its thread was running
pub frame_runs : (end : End) (old : State) (tid count : ℕ) (new : State) → runs_thread end ≡ true → FrameStepBy end old tid count new →
    IsRunning (thread_at old tid)
frame_runs end old tid count new some p =
    let r = reaches end old tid count new some p in running_at (run_end end) count tid old r.1 r.0 r.2

-- where a thread runs, one does in it, unless a wait ends
pub has_one : (end : End) (old : State) (tid count : ℕ) (new : State) (t : ℕ) → is_expiry end ≡ false → IsRunning (thread_at old t) →
    FrameStepBy end old tid count new → runs_thread end ≡ true
has_one end old tid count new t still running p = by (runs_thread end) refl where
  by : (b : Bool) → runs_thread end ≡ b → runs_thread end ≡ true
  by true some = some
  by false none = let own = no_thread end old tid count new none still p in absurd (own.none_running t running)

-- where none runs, it has none
pub has_none : (end : End) (old : State) (tid count : ℕ) (new : State) → ((t : ℕ) → IsRunning (thread_at old t) → ⊥) →
    FrameStepBy end old tid count new → runs_thread end ≡ false
has_none end old tid count new rests p = by (runs_thread end) refl where
  by : (b : Bool) → runs_thread end ≡ b → runs_thread end ≡ false
  by true some = absurd (rests tid (frame_runs end old tid count new some p))
  by false none = none

-- ---- what the end of a run tells of a frame's

-- the same end, but for what a call was answered
abbrev IsAlike : Option CallRecord → End → End → Type 0
IsAlike call end other = MatchOption call (other ≡ end) (λ _. (r : CallRecord) × (other ≡ ends.Call r))

alike : (call call' : Option CallRecord) (fault fault' : Option FaultKind) → run_of call fault ≡ run_of call' fault' →
    IsAlike call (ran_end call fault) (ran_end call' fault')
alike (Some q) (Some r) fault fault' e = (r, refl)
alike (Some q) None fault (Some kind) e = absurd cc
alike (Some q) None fault None e = absurd cc
alike None (Some r) (Some kind) fault' e = absurd cc
alike None (Some r) None fault' e = absurd cc
alike None None (Some kind) (Some kind') e = let same : kind' ≡ kind = cc in ap ends.Fault same
alike None None (Some kind) None e = absurd cc
alike None None None (Some kind) e = absurd cc
alike None None None None e = refl

-- frames of a thread whose runs end alike end alike
pub same_run_end : (end other : End) → runs_thread end ≡ true → runs_thread other ≡ true → run_end end ≡ run_end other →
    IsAlike (call_in end) end other
same_run_end end other some some' same =
    let e : run_of (call_in end) (fault_in end) ≡ run_of (call_in other) (fault_in other) = sym (runs end some) ∙ same ∙ runs other some' in
    subst (λ (x : End). IsAlike (call_in end) x other) (ran_end_is end some)
    (subst (λ (x : End). IsAlike (call_in end) (ran_end (call_in end) (fault_in end)) x) (ran_end_is other some')
    (alike (call_in end) (call_in other) (fault_in end) (fault_in other) e))

-- and so do frames of one end
pub same_end : (end other : End) → other ≡ end → IsAlike (call_in end) end other
same_end end other same = by (call_in end) refl where
  by : (call : Option CallRecord) → call_in end ≡ call → IsAlike call end other
  by None none = same
  by (Some r) called = (r, same ∙ call_is end r called)
