-- What the slice of a thread that runs is, end by end.
use Rattle.std.proofs.Common.{◌≡◌, ℕ, ◌-◌, ◌^◌, ◌<◌, ◌≤◌, inl, inr, List, Option, Some, None, Result, Ok, Err, IfOk, OnOk, OnErr, refl, sym, ◌∙◌, ap, subst, arith}
use Rattle.rrv_model.specs.declared.machine.FaultKind.{FaultKind}
use Rattle.rrv_model.specs.declared.machine.GuestEnd.TheVariants as guest_ends
use Rattle.rrv_model.specs.declared.machine.Thread.{Thread}
use Rattle.rrv_model.specs.declared.record.CallRecord.{CallRecord}
use Rattle.rrv_model.specs.declared.record.Choice.{Choice}
use Rattle.rrv_model.specs.declared.record.End.TheVariants as ends
use Rattle.rrv_model.specs.declared.record.Frame.{Frame}
use Rattle.rrv_model.specs.declared.syscall.Syscall.{Syscall}
use Rattle.rrv_model.specs.declared.syscall.Syscall.TheVariants.{Write, Writev}
use Rattle.rrv_model.specs.Words.{minus}
use Rattle.rrv_model.specs.Memory.{Memory}
use Rattle.rrv_model.specs.State.{State, register, thread_at, with_thread, IsRunning}
use Rattle.rrv_model.specs.Step.{ThreadMayTakeMemory}
use Rattle.rrv_model.specs.CallRows.{change_thread, syscall_of}
use Rattle.rrv_model.specs.Calls.{Answer, Calls}
use Rattle.rrv_model.specs.FrameStep.{EndsInCall, FrameStep, Steps, closed, closed_at_end}
use Rattle.rrv_model.specs.Ends.{call_in}
use Rattle.rrv_model.specs.Output.{CallPutsAt, Chunk, put_out_by, puts}
use Rattle.rrv_model.specs.RecordText.{HasCallText, HasFrameText, HasTidAndCount}
use Rattle.guest_calls.specs.Carries.{Becomes, BecomesOrStays, KeepsRest}
use Rattle.guest_calls.specs.Guest.{GuestValue, chunks_of, counted, state_of}
use Rattle.guest_calls.specs.Snapshots.{guest_snapshots}
use Rattle.guest_calls.specs.Runs.{RunsToCall, RunsToFault, before_call}
use Rattle.guest_calls.specs.Asking.{CallAsks, CallIsAnswered}
use Rattle.guest_calls.specs.Growth.{CallMayGrow}
use Rattle.serial_sched.specs.Asking.{Gives}
use Rattle.serial_sched.specs.Slices.{CanRun, FitsChoice, IsSliceOf, IsUntouched, IsWhole, NextMayGrow}
use Rattle.rrv_model.proofs.Threads.{get-insert_same}
use Rattle.serial_sched.proofs.OneStep.{call_reached, running_behind, steps_end_none}
use Rattle.serial_sched.proofs.Ecalls.{call_may_take, store_may_take}

-- ---- what a call puts out

-- the thread there is changed
changed_there : (tid : ℕ) (change : Thread → Thread) (s : State) (t : Thread) → thread_at s tid ≡ Some t →
    change_thread tid change s ≡ with_thread tid (change t) s
changed_there tid change s t there = rw there refl

-- the thread at its ECALL, from the one behind it
abbrev at_ecall : Thread → Thread
at_ecall t = record t { regs = record t.regs { pc = minus t.regs.pc 4 } }

same_puts : (call : Syscall) (m : Memory) (t : Thread) (count : ℕ) → puts call m t count ≡ puts call m (at_ecall t) count
same_puts Write m t count = refl
same_puts Writev m t count = refl
same_puts _ m t count = refl

-- an ECALL changes nothing that a call puts out
pub same_put : (tid count : ℕ) (before called : State) (t : Thread) → thread_at called tid ≡ Some t → before_call tid called ≡ before →
    put_out_by (thread_at called tid) called.memory count ≡ put_out_by (thread_at before tid) before.memory count
same_put tid count before called t there back =
    let was : before_call tid called ≡ with_thread tid (at_ecall t) called = changed_there tid at_ecall called t there in
    let is : before ≡ with_thread tid (at_ecall t) called = sym back ∙ was in
    ap (λ (o : Option Thread). put_out_by o called.memory count) there
    ∙ same_puts (syscall_of (register t.regs 17)) called.memory t count
    ∙ sym (ap (λ (o : Option Thread). put_out_by o called.memory count) (get-insert_same called.threads tid (at_ecall t)))
    ∙ sym (ap (λ (s : State). put_out_by (thread_at s tid) s.memory count) is)

pub call_puts : (limit tid count : ℕ) (s called after : State) (answer : Answer) (r : CallRecord) (chunks : List Chunk) →
    RunsToCall limit tid count s called →
    Calls called tid answer r after → chunks ≡ put_out_by (thread_at called tid) called.memory r.result →
    CallPutsAt s tid count r.result chunks
call_puts limit tid count s called after answer r chunks p calls puts =
    (p.before, p.steps, puts ∙ same_put tid r.result p.before called calls.thread calls.there p.back)

-- ---- the state behind an ECALL

pub call_running : (limit tid count : ℕ) (s called : State) → RunsToCall limit tid count s called → IsRunning (thread_at called tid)
call_running limit tid count s called p = running_behind p.before tid called p.calls

pub call_runs_on : (limit tid count : ℕ) (s called : State) → RunsToCall limit tid count s called → s.ended ≡ None → called.ended ≡ None
call_runs_on limit tid count s called p runs =
    ap (λ (x : State). x.ended) p.calls.after_is ∙ steps_end_none (count - 1) tid s p.before p.steps ∙ runs

-- ---- where an instruction finds no memory

-- what may find no memory may take some
grow_may_take : (s : State) (tid : ℕ) → NextMayGrow s tid → ThreadMayTakeMemory s tid
grow_may_take s tid (inl stores) = store_may_take s tid stores
grow_may_take s tid (inr calls) = call_may_take s tid calls.called calls.calls

-- a run to a call and what the call does end a slice
pub ends_in_call : (limit tid count : ℕ) (s called after new : State) (answer : Answer) (r : CallRecord) →
    RunsToCall limit tid count s called →
    Calls called tid answer r after → new ≡ closed after → EndsInCall s tid count r new
ends_in_call limit tid count s called after new answer r p calls closes = record {
  some = p.some;
  before = p.before;
  steps = p.steps;
  called = called;
  calls = p.calls;
  answer = answer;
  after = after;
  answered = calls;
  new_is = closes;
}

-- ---- slices

-- a slice of the same frame
pub same_frame : {O : Type 0} (gives : Gives O) (old new : GuestValue) (choice : Choice) (before after : O) (f f' : Frame) → f' ≡ f →
    IsSliceOf gives old choice f new before after → IsSliceOf gives old choice f' new before after
same_frame gives old new choice before after f f' e p = subst (λ (x : Frame). IsSliceOf gives old choice x new before after) (sym e) p

-- what a slice leaves that ends in no call: its instructions are counted, and nothing else shows
pub record Counts {O : Type 0} (old : GuestValue) (count : ℕ) (new : GuestValue) (before after : O) : Type 0 where
  pub ran : new.ran ≡ counted old.ran count
  pub put : new.put ≡ old.put
  pub snapshots : guest_snapshots new ≡ guest_snapshots old
  pub environment : after ≡ before

abbrev preempt : Choice → ℕ → Frame
preempt choice count = record { tid = choice.tid; count = count; end = ends.Preempt }

-- a slice whose frame ends in no call
quiet_slice : {O : Type 0} (gives : Gives O) (old new : GuestValue) (choice : Choice) (before after : O) (f : Frame) →
    call_in f.end ≡ None →
    FrameStep (state_of old) f (state_of new) → HasFrameText f.end f.tid f.count → FitsChoice f.end (state_of old) f choice →
    Counts old f.count new before after → IsSliceOf gives old choice f new before after
quiet_slice gives old new choice before after f none frame text fits counts = record {
  is_frame = record {
    frame = frame;
    text = text;
    puts = rw none tt;
    keeps = rw none counts.put;
    ran = counts.ran;
    snapshots = counts.snapshots;
  };
  fits = fits;
  answered = rw none counts.environment;
  unasked = λ _. counts.environment;
}

-- what comes of a slice that ends before an instruction which found no memory: none where it would be the first one
pub record StopsShort {O E : Type 0} (gives : Gives O) (old new : GuestValue) (choice : Choice) (before after : O) (r : Result Frame E) :
    Type 0 where
  pub slice : IfOk r (λ f. IsSliceOf gives old choice f new before after)
  pub memory : OnErr r (ThreadMayTakeMemory (state_of old) choice.tid)
  pub grows : OnErr r (NextMayGrow (state_of old) choice.tid)
  pub refused : OnErr r (IsUntouched old new before after)

-- counting nothing changes nothing
counted_none : (n : ℕ) → n < 2 ^ 64 → counted n 0 ≡ n
counted_none n low = omega arith

module _ {O : Type 0} (gives : Gives O) (old new : GuestValue) (choice : Choice) (before after : O)
    (can : CanRun (state_of old) choice) where
  -- so of a guest whose slice is closed
  still_counts : (count : ℕ) (mid : GuestValue) → KeepsRest mid new → new.put ≡ mid.put → Counts old count mid before after →
      Counts old count new before after
  still_counts count mid keeps put counts = record {
    ran = keeps.ran ∙ counts.ran;
    put = put ∙ counts.put;
    snapshots = keeps.snapshots ∙ counts.snapshots;
    environment = counts.environment;
  }

  counted_text : (count : ℕ) → 1 ≤ count → count ≤ choice.quantum → HasTidAndCount choice.tid count
  counted_text count some within =
      let most = can.quantum.1 in record { tid_low = can.tid.0; tid_high = can.tid.1; count_low = some; count_high = omega arith }

  preempted : (count : ℕ) (last : State) → 1 ≤ count → count ≤ choice.quantum → Steps count choice.tid (state_of old) last →
      IsWhole (state_of old) choice.tid count choice.quantum → state_of new ≡ closed last → Counts old count new before after →
      IsSliceOf gives old choice (preempt choice count) new before after
  preempted count last some within steps whole closes counts =
      let most = can.quantum.1 in
      quiet_slice gives old new choice before after (preempt choice count) refl
      (record { runs = can.runs; limit = omega arith; goes = record { some = some; last = last; steps = steps; new_is = closes } })
      (counted_text count some within, tt) (refl, (refl, whole)) counts

  -- the whole quantum
  pub limit_slice : (f : Frame) (count : ℕ) (mid : GuestValue) → f ≡ preempt choice count → count ≡ choice.quantum →
      Steps choice.quantum choice.tid (state_of old) (state_of mid) → Becomes (closed (state_of mid)) mid new →
      Counts old count mid before after → IsSliceOf gives old choice f new before after
  limit_slice f count mid is e steps closes counts =
      let least = can.quantum.0 in
      same_frame gives old new choice before after (preempt choice count) f is
      (preempted count (state_of mid) (omega arith) (omega arith)
      (subst (λ n. Steps n choice.tid (state_of old) (state_of mid)) (sym e) steps) (inl e) closes.state
      (still_counts count mid closes.keeps closes.put counts))

  -- less, since there was no memory
  pub stops_short : {E : Type 0} (r : Result Frame E) (count : ℕ) (mid : GuestValue) → old.ran < 2 ^ 64 → count < choice.quantum →
      Steps count choice.tid (state_of old) (state_of mid) → NextMayGrow (state_of mid) choice.tid → OnOk r (1 ≤ count) →
      IfOk r (λ f. f ≡ preempt choice count) → OnErr r (count ≡ 0) → BecomesOrStays r (closed (state_of mid)) mid new →
      Counts old count mid before after → StopsShort gives old new choice before after r
  stops_short (Ok f) count mid low within steps grows some frame none closes counts =
      let last = state_of mid in
      let takes : ThreadMayTakeMemory last choice.tid = grow_may_take last choice.tid grows in
      let slice : IsSliceOf gives old choice (preempt choice count) new before after =
      preempted count last some (omega arith) steps
      (inr (within, record { last = last; steps = steps; takes = takes; grows = grows })) closes.state
      (still_counts count mid closes.keeps closes.put counts) in
      record {
        slice = same_frame gives old new choice before after (preempt choice count) f frame slice;
        memory = tt;
        grows = tt;
        refused = tt;
      }
  stops_short (Err x) count mid low within steps grows some frame none closes counts =
      let stays : state_of mid ≡ state_of old = subst (λ (n : ℕ). Steps n choice.tid (state_of old) (state_of mid)) none steps in
      let held = still_counts count mid closes.keeps closes.put counts in
      let first : NextMayGrow (state_of old) choice.tid = subst (λ (s : State). NextMayGrow s choice.tid) stays grows in
      record {
        slice = tt;
        memory = grow_may_take (state_of old) choice.tid first;
        grows = first;
        refused = record {
          state = ap state_of closes.refused ∙ stays;
          ran = held.ran ∙ ap (counted old.ran) none ∙ counted_none old.ran low;
          put = held.put;
          snapshots = held.snapshots;
          environment = held.environment;
        };
      }

  -- the ECALL is taken back
  pub call_stops_short : {E : Type 0} (r : Result Frame E) (count : ℕ) (called : State) (back : GuestValue) → old.ran < 2 ^ 64 →
      RunsToCall choice.quantum choice.tid count (state_of old) called → CallMayGrow called choice.tid (thread_at called choice.tid) →
      state_of back ≡ before_call choice.tid called → OnOk r (1 ≤ count - 1) → IfOk r (λ f. f ≡ preempt choice (count - 1)) →
      OnErr r (count - 1 ≡ 0) → BecomesOrStays r (closed (state_of back)) back new → Counts old (count - 1) back before after →
      StopsShort gives old new choice before after r
  call_stops_short r count called back low p grows e some frame none closes counts =
      let least = p.some in let within = p.within in
      let at : state_of back ≡ p.before = e ∙ p.back in
      stops_short r (count - 1) back low (omega arith)
      (subst (λ (x : State). Steps (count - 1) choice.tid (state_of old) x) (sym at) p.steps)
      (subst (λ (x : State). NextMayGrow x choice.tid) (sym at) (inr (record { called = called; calls = p.calls; grows = grows })))
      some frame none closes counts

  pub fault_slice : (count : ℕ) (kind : FaultKind) (mid : GuestValue) →
      RunsToFault choice.quantum choice.tid count kind (state_of old) (state_of mid) →
      Becomes (closed_at_end (guest_ends.Faulted kind) (state_of mid)) mid new → Counts old count mid before after →
      IsSliceOf gives old choice (record { tid = choice.tid; count = count; end = ends.Fault kind }) new before after
  fault_slice count kind mid p closes counts =
      let most = can.quantum.1 in let some = p.some in let within = p.within in
      quiet_slice gives old new choice before after (record { tid = choice.tid; count = count; end = ends.Fault kind }) refl
      (record {
        runs = can.runs;
        limit = omega arith;
        goes = record { some = p.some; before = state_of mid; steps = p.steps; faults = p.faults; new_is = closes.state };
      })
      (counted_text count p.some p.within, tt) (refl, (refl, p.within)) (still_counts count mid closes.keeps closes.put counts)

  pub call_slice : (f : Frame) (count : ℕ) (called after_call : State) (answer : Answer) (r : CallRecord) →
      f ≡ record { tid = choice.tid; count = count; end = ends.Call r } → RunsToCall choice.quantum choice.tid count (state_of old) called →
      Calls called choice.tid answer r after_call → HasCallText r →
      chunks_of new.put ≡ put_out_by (thread_at called choice.tid) called.memory r.result →
      CallIsAnswered gives called choice.tid (thread_at called choice.tid) r before after →
      (¬ CallAsks called choice.tid (thread_at called choice.tid) → after ≡ before) → state_of new ≡ closed after_call →
      new.ran ≡ counted old.ran count → guest_snapshots new ≡ guest_snapshots old → IsSliceOf gives old choice f new before after
  call_slice f count called after_call answer r is p calls text puts answered unasked closes ran snapshots =
      let most = can.quantum.1 in let some = p.some in let within = p.within in
      let reaches = call_reached choice.quantum count choice.tid (state_of old) called p in
      same_frame gives old new choice before after (record { tid = choice.tid; count = count; end = ends.Call r }) f is (record {
        is_frame = record {
          frame = record {
            runs = can.runs;
            limit = omega arith;
            goes = ends_in_call choice.quantum choice.tid count (state_of old) called after_call (state_of new) answer r p calls closes;
          };
          text = (counted_text count p.some p.within, text);
          puts = call_puts choice.quantum choice.tid count (state_of old) called after_call answer r (chunks_of new.put) p calls puts;
          keeps = tt;
          ran = ran;
          snapshots = snapshots;
        };
        fits = (refl, (refl, p.within));
        answered = record { called = called; reaches = reaches; answered = answered };
        unasked = λ no. unasked (λ asks. no (record { called = called; reaches = reaches; asks = asks }));
      })
