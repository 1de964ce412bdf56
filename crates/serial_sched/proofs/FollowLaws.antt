-- Where a frame leads nowhere.
use Rattle.std.proofs.Common.{◌≡◌, ◌≢◌, ◌⊎◌, inl, inr, arith, ℕ, ◌≤◌, List, false, is_some, Option, Some, None, IfSome, Result, Ok, Err, OnOk, IsErrOf, refl, sym, ◌∙◌, ap, subst}
use Rattle.std.specs.Prelude.{IsErrAnd}
use Rattle.std.proofs.lemmas.Bool.{false≢true}
use Rattle.rrv_model.specs.declared.limits.TheConstants.{MAX_QUANTUM}
use Rattle.rrv_model.specs.declared.machine.FaultKind.{FaultKind}
use Rattle.rrv_model.specs.declared.machine.GuestEnd.{GuestEnd}
use Rattle.rrv_model.specs.declared.record.CallRecord.{CallRecord}
use Rattle.rrv_model.specs.declared.record.End.{End}
use Rattle.rrv_model.specs.declared.record.End.TheVariants as frame_ends
use Rattle.rrv_model.specs.declared.record.Frame.{Frame}
use Rattle.rrv_model.specs.State.{State, thread_at}
use Rattle.rrv_model.specs.Calls.{Answer, Calls}
use Rattle.rrv_model.specs.Ends.{call_in, runs_thread}
use Rattle.rrv_model.specs.FrameStep.{Steps, FrameStep, FrameStepBy, EndsInCall, EndsInFault, closed}
use Rattle.rrv_model.specs.Output.{CallPutsAt, Chunk, put_out_by}
use Rattle.rv_machine.specs.declared.run.RunEnd.{RunEnd}
use Rattle.rv_machine.specs.declared.run.RunEnd.TheVariants as ends
use Rattle.guest_calls.specs.declared.put.Put.{Put}
use Rattle.guest_calls.specs.Asking.{Question, CallIsAnswered}
use Rattle.guest_calls.specs.Growth.{CallMayGrow}
use Rattle.guest_calls.specs.Runs.{RunsTo, RunsToCall}
use Rattle.serial_sched.specs.Answered.{answered, Recalls}
use Rattle.serial_sched.specs.declared.fault.FollowFault.{FollowFault}
use Rattle.serial_sched.specs.declared.fault.FollowFault.TheVariants as faults
use Rattle.serial_sched.specs.Follows.{CallMeetsNoMemory, EndMeetsNoMemory, Follows, FrameMeetsNoMemory, Reaches, ReachesCall, ReachesFault}
use Rattle.serial_sched.specs.Slices.{KeepsPut}
use Rattle.serial_sched.proofs.OneStep.{call_reached, reached, one_run_end, one_called, stopped}
use Rattle.serial_sched.proofs.RecordedAnswers.{told_again}
use Rattle.serial_sched.proofs.SliceLaws.{call_puts, ends_in_call}

reaches_call : (old new : State) (tid count : ℕ) (r : CallRecord) (p : EndsInCall old tid count r new) → ReachesCall count tid old p.called
reaches_call old new tid count r p = record { some = p.some; before = p.before; steps = p.steps; calls = p.calls }

reaches_fault : (old new : State) (tid count : ℕ) (kind : FaultKind) (p : EndsInFault old tid count kind new) →
    ReachesFault count tid kind old p.before
reaches_fault old new tid count kind p = record { some = p.some; steps = p.steps; faults = p.faults }

-- where no run has that end, no frame has it
pub no_call : (old : State) (tid count : ℕ) (r : CallRecord) → ((end : RunEnd) (new : State) → Reaches end count tid old new → ⊥) →
    (new : State) → EndsInCall old tid count r new → ⊥
no_call old tid count r none new p = none ends.Call p.called (reaches_call old new tid count r p)

pub no_fault : (old : State) (tid count : ℕ) (kind : FaultKind) → ((end : RunEnd) (new : State) → Reaches end count tid old new → ⊥) →
    (new : State) → EndsInFault old tid count kind new → ⊥
no_fault old tid count kind none new p = none (ends.Fault kind) p.before (reaches_fault old new tid count kind p)

-- where a run has another end
pub other_than_steps : (end : RunEnd) (tid count : ℕ) (old mid : State) → end ≢ ends.Limit → RunsTo end count tid count old mid →
    (new : State) → Steps count tid old new → ⊥
other_than_steps end tid count old mid other run new p =
    other (one_run_end end ends.Limit count tid old mid new (reached end count count tid old mid refl run) p)

-- a run that is no steps alone, and not for want of memory, is none of so many steps
pub other_end : (end : RunEnd) (tid limit count : ℕ) (old mid : State) → end ≢ ends.Limit → end ≢ ends.Memory →
    RunsTo end limit tid count old mid → (new : State) → Steps limit tid old new → ⊥
other_end end tid limit count old mid other memory run new p = by (all_or count limit) where
  all_or : (m n : ℕ) → (m ≡ n) ⊎ (m ≢ n)
  all_or m n = grind arith

  by : (count ≡ limit) ⊎ (count ≢ limit) → ⊥
  by (inl all) = other_than_steps end tid limit old mid other (subst (λ n. RunsTo end limit tid n old mid) all run) new p
  by (inr less) = stopped end limit count tid old mid memory less run ends.Limit new p

pub other_than_call : (end : RunEnd) (tid count : ℕ) (r : CallRecord) (old mid : State) → end ≢ ends.Call →
    RunsTo end count tid count old mid →
    (new : State) → EndsInCall old tid count r new → ⊥
other_than_call end tid count r old mid other run new p =
    other (one_run_end end ends.Call count tid old mid p.called (reached end count count tid old mid refl run)
    (reaches_call old new tid count r p))

pub other_than_fault : (end : RunEnd) (tid count : ℕ) (kind : FaultKind) (old mid : State) → end ≢ ends.Fault kind →
    RunsTo end count tid count old mid →
    (new : State) → EndsInFault old tid count kind new → ⊥
other_than_fault end tid count kind old mid other run new p =
    other (one_run_end end (ends.Fault kind) count tid old mid p.before (reached end count count tid old mid refl run)
    (reaches_fault old new tid count kind p))

-- where the call has another record, though it is answered as it is told
pub other_record : {O : Type 0} (gives : O → Question → Answer → O → Type 0) (tid count : ℕ) (q r : CallRecord) (old called : State)
    (before after : O) →
    ((question : Question) (answer : Answer) → gives before question answer after → Recalls (answered r.written) question answer) →
    q ≢ r → RunsToCall count tid count old called → CallIsAnswered gives called tid (thread_at called tid) q before after →
    (new : State) → EndsInCall old tid count r new → ⊥
other_record gives tid count q r old called before after recalls other run found new p =
    let e : p.called ≡ called =
    one_called count tid old p.called called (reaches_call old new tid count r p)
    (call_reached count count tid old called run) in
    let was : Calls called tid p.answer r p.after = subst (λ (s : State). Calls s tid p.answer r p.after) e p.answered in
    other (told_again gives called tid p.answer r q p.after before after recalls was found)

-- ---- what is followed

pub call_followed : (tid count : ℕ) (q r : CallRecord) (answer : Answer) (old called after : State) → q ≡ r →
    RunsToCall count tid count old called →
    Calls called tid answer q after → EndsInCall old tid count r (closed after)
call_followed tid count q r answer old called after e run calls =
    ends_in_call count tid count old called after (closed after) answer r run
    (subst (λ (t : CallRecord). Calls called tid answer t after) e calls) refl

-- a call finds no memory
pub call_meets : (limit tid count : ℕ) (old called : State) → RunsToCall limit tid count old called →
    CallMayGrow called tid (thread_at called tid) →
    CallMeetsNoMemory old tid count
call_meets limit tid count old called p grows =
    record { called = called; reaches = call_reached limit count tid old called p; grows = grows }

pub call_put : (tid count : ℕ) (q r : CallRecord) (answer : Answer) (old called after : State) (chunks : List Chunk) → q ≡ r →
    RunsToCall count tid count old called →
    Calls called tid answer q after → chunks ≡ put_out_by (thread_at called tid) called.memory q.result →
    CallPutsAt old tid count r.result chunks
call_put tid count q r answer old called after chunks e run calls puts =
    subst (λ (t : CallRecord). CallPutsAt old tid count t.result chunks) e
    (call_puts count tid count old called after answer q chunks run calls puts)

-- the end of a frame in which no thread ran is no call
pub without_call : (end : End) (P : CallRecord → Type 0) → runs_thread end ≡ false → IfSome (call_in end) P
without_call frame_ends.Preempt P none = tt
without_call (frame_ends.Call told) P none = absurd (false≢true (sym none))
without_call (frame_ends.Fault kind) P none = tt
without_call frame_ends.Stuck P none = tt
without_call frame_ends.Expire P none = tt

-- what was put out may stay at any end
pub kept : {old new : Option Put} (end : End) → new ≡ old → KeepsPut end old new
kept frame_ends.Preempt same = same
kept (frame_ends.Call told) same = tt
kept (frame_ends.Fault kind) same = same
kept frame_ends.Stuck same = same
kept frame_ends.Expire same = same

-- ---- a frame by its end

module _ {T : Type 0} (f : Frame) (old new : State) where
  pub frame_followed : (r : Result T FollowFault) → old.ended ≡ None → f.count ≤ MAX_QUANTUM → Follows f.end old f.tid f.count r new →
      OnOk r (FrameStep old f new)
  frame_followed (Ok x) runs limit follows = record { runs = runs; limit = limit; goes = follows }
  frame_followed (Err e) runs limit follows = tt

  pub frame_goes_nowhere : (r : Result T FollowFault) → Follows f.end old f.tid f.count r new → IsErrOf r faults.GoesNowhere →
      (other : State) → FrameStep old f other → ⊥
  frame_goes_nowhere (Ok x) follows e other p = cc
  frame_goes_nowhere (Err faults.GoesNowhere) follows e other p = follows other p.goes
  frame_goes_nowhere (Err faults.Memory) follows e other p = cc

  pub frame_meets : (r : Result T FollowFault) → old.ended ≡ None → f.count ≤ MAX_QUANTUM → Follows f.end old f.tid f.count r new →
      IsErrOf r faults.Memory → FrameMeetsNoMemory old f
  frame_meets (Ok x) runs limit follows e = absurd cc
  frame_meets (Err faults.GoesNowhere) runs limit follows e = absurd cc
  frame_meets (Err faults.Memory) runs limit follows e = record { runs = runs; limit = limit; meets = follows }

-- the exit of a `?`
one_error : {A E : Type 0} (r : Result A E) (x y : E) → r ≡ Err x → r ≡ Err y → x ≡ y
one_error r x y p q = cc

pub again : {A B E : Type 0} (r : Result A E) (y x f : E) → r ≡ Err y → y ≡ x → r ≡ Err f → IsErrOf {T = B} (Err x) f
again r y x f p q e = let w : x ≡ f = sym q ∙ one_error r y f p e in ap Err w

-- at that exit the error is the one that was found
pub refused : {A B : Type 0} (r : Result A FollowFault) (x : FollowFault) (end : End) (tid count : ℕ) (old new : State) →
    IsErrAnd r (λ y. y ≡ x) →
    (IsErrOf {T = B} (Err x) faults.GoesNowhere → (other : State) → FrameStepBy end old tid count other → ⊥) →
    (IsErrOf {T = B} (Err x) faults.Memory → EndMeetsNoMemory end old tid count) → Follows end old tid count r new
refused (Ok y) x end tid count old new is nowhere memory = absurd is
refused (Err faults.GoesNowhere) x end tid count old new is nowhere memory = nowhere (ap Err (sym is))
refused (Err faults.Memory) x end tid count old new is nowhere memory = memory (ap Err (sym is))

pub same_kinds : (end : RunEnd) (a b : FaultKind) → end ≡ ends.Fault a → end ≡ ends.Fault b → a ≡ b
same_kinds end a b p q = cc

pub not_ended : (o end : Option GuestEnd) → o ≡ end → false ≡ is_some o → end ≡ None
not_ended None end e p = sym e
not_ended (Some x) end e p = absurd (false≢true p)
