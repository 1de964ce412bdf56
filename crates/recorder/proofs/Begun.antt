-- Who begins to wait by a frame: its thread alone.
use Rattle.std.proofs.Common.{◌≡◌, ◌≢◌, ℕ, zero, suc, ◌+◌, ◌-◌, ◌*◌, ◌/◌, ◌%◌, ◌^◌, min, Bool, true, false, cond, ◌==◌, nat_lt, nat_le, not, ◌&&◌, ◌||◌, if◌then◌else◌, List, [], ◌∷◌, ◌++◌, fold, Option, Some, None, Result, Ok, Err, refl, sym, ◌∙◌, ap, subst}
use Rattle.std.specs.Prelude.{IsSome, IsSomeAnd}
use Rattle.std.specs.Cmp.{nat_cmp_total}
use Rattle.std.specs.FinMap.{FinMap, get, insert, remove, len, get-insert, get-remove}
use Rattle.std.specs.Ordering.{nat_cmp, eq_by_cmp}
use Rattle.rrv_model.specs.declared.machine.FutexWait.{FutexWait}
use Rattle.rrv_model.specs.declared.machine.GuestEnd.{GuestEnd}
use Rattle.rrv_model.specs.declared.machine.Thread.{Thread}
use Rattle.rrv_model.specs.declared.machine.Timeout.{Timeout}
use Rattle.rrv_model.specs.declared.record.CallRecord.{CallRecord}
use Rattle.rrv_model.specs.declared.record.Frame.{Frame}
use Rattle.rrv_model.specs.declared.syscall.Syscall.{Syscall}
use Rattle.rrv_model.specs.declared.syscall.Syscall.TheVariants as calls
use Rattle.rrv_model.specs.Memory.{Memory, mapped, page_count, page_bytes, pages_for, readable, writable, all_mapped, all_free}
use Rattle.rrv_model.specs.State.{State, thread_at, live_threads, IsTimed}
use Rattle.rrv_model.specs.Step.{Hart, with_hart, word_at}
use Rattle.rrv_model.specs.CallRows.{Row, Returns, NoResult, AsksInput, AsksRandom, AsksTime, argument, change_thread, child_of, ends, fails, has_flag, leaves, only_returns, set_register, transfer, waiters, waits, wakes, woken}
use Rattle.rrv_model.specs.CallRows.{read_row, write_row, is_output, writev_row, buffers_at, clipped, all_readable, total_len, exit_row, clears, futex_row, wait_row, asked_timeout, clone_row, tid_places, are_clone_flags, all_writable, permissions_of, page_limit}
use Rattle.rrv_model.specs.CallRows.{brk_row, munmap_row, mmap_place, maps_at, mmap_row, mprotect_row, getrandom_row, clock_gettime_row, row_of}
use Rattle.rrv_model.specs.Calls.{Answer, Calls, after_call, call_row, results, writes}
use Rattle.rrv_model.specs.Ends.{call_in, guest_end, is_expiry}
use Rattle.rrv_model.specs.FrameStep.{FrameStep, Steps, closed_by, timed_out}
use Rattle.rrv_model.proofs.Ends.{AnswersCall, expired_by, frame_parts, plain_steps}
use Rattle.rrv_model.proofs.ThreadRules.{change_is, changed_at, get-changed, resumed, same_tid, woken_is}

-- of the threads but one, each that waits with a timeout then did so before
abbrev pub Others : ℕ → State → State → Type 0
Others tid s s' = (q : ℕ) → q ≢ tid → IsTimed (thread_at s' q) → IsTimed (thread_at s q)

both_others : (tid : ℕ) (s mid s' : State) → Others tid s mid → Others tid mid s' → Others tid s s'
both_others tid s mid s' g h q apart timed = g q apart (h q apart timed)

-- ---- one thread of a state

timed_cond : (b : Bool) (x y z : Option Thread) → (b ≡ true → IsTimed x → IsTimed z) → (IsTimed y → IsTimed z) → IsTimed (cond b x y) →
    IsTimed z
timed_cond true x y z f g h = f refl h
timed_cond false x y z f g h = g h

timed_changed : (w : ℕ) (change : Thread → Thread) → ((t : Thread) → (change t).wait ≡ t.wait) → (o : Option Thread) →
    IsTimed (changed_at w change o) → IsTimed o
timed_changed w change same None h = h
timed_changed w change same (Some t) h = subst (λ (o : Option FutexWait). IsSomeAnd o (λ w. IsSome w.timeout)) (same t) h

-- what a thread of a changed state is
changed_state : (w : ℕ) (change : Thread → Thread) (s : State) (q : ℕ) →
    thread_at (change_thread w change s) q ≡ cond (eq_by_cmp nat_cmp q w) (changed_at w change (get s.threads w)) (get s.threads q)
changed_state w change s q = ap (λ (s' : State). get s'.threads q) (change_is w change s) ∙ get-changed s.threads w change q

-- a change that leaves how the thread waits
change_others : (tid w : ℕ) (change : Thread → Thread) (s : State) → ((t : Thread) → (change t).wait ≡ t.wait) →
    Others tid s (change_thread w change s)
change_others tid w change s same q apart h =
    timed_cond (eq_by_cmp nat_cmp q w) (changed_at w change (get s.threads w)) (get s.threads q) (get s.threads q)
    (λ e t. subst (λ k. IsTimed (get s.threads k)) (sym (same_tid q w e)) (timed_changed w change same (get s.threads w) t)) (λ t. t)
    (subst (λ (o : Option Thread). IsTimed o) (changed_state w change s q) h)

-- a thread that runs again
not_timed : (w : ℕ) (o : Option Thread) → IsTimed (changed_at w resumed o) → ⊥
not_timed w None h = h
not_timed w (Some t) h = h

woken_others : (tid w : ℕ) (s : State) → Others tid s (woken s w)
woken_others tid w s q apart h =
    timed_cond (eq_by_cmp nat_cmp q w) (changed_at w resumed (get s.threads w)) (get s.threads q) (get s.threads q)
    (λ e t. absurd (not_timed w (get s.threads w) t)) (λ t. t)
    (subst (λ (o : Option Thread). IsTimed o)
    (ap (λ (s' : State). get s'.threads q) (woken_is s w) ∙ get-changed s.threads w resumed q) h)

all_woken_others : (tid : ℕ) (tids : List ℕ) (s : State) → Others tid s (fold woken s tids)
all_woken_others tid [] s = λ q apart h. h
all_woken_others tid (w ∷ tids) s = both_others tid s (woken s w) (fold woken (woken s w) tids) (woken_others tid w s)
    (all_woken_others tid tids (woken s w))

-- the thread itself begins to wait
waits_others : (tid : ℕ) (w : FutexWait) (s : State) → Others tid s (waits tid w s)
waits_others tid w s q apart h =
    let change : Thread → Thread = λ t. record t { wait = Some w } in
    timed_cond (eq_by_cmp nat_cmp q tid) (changed_at tid change (get s.threads tid)) (get s.threads q) (get s.threads q)
    (λ e t. absurd (apart (same_tid q tid e))) (λ t. t)
    (subst (λ (o : Option Thread). IsTimed o) (changed_state tid change (record s { waiting = s.waiting ++ tid ∷ [] }) q) h)

-- the thread goes
threads_either : (b : Bool) (x y : State) (m : FinMap nat_cmp Thread) → x.threads ≡ m → y.threads ≡ m →
    (if b then x else y).threads ≡ m
threads_either true x y m e f = e
threads_either false x y m e f = f

leaves_others : (tid status : ℕ) (s : State) → Others tid s (leaves tid status s)
leaves_others tid status s q apart h =
    let rest : State = record s { threads = remove s.threads tid } in
    let same : (leaves tid status s).threads ≡ remove s.threads tid =
    threads_either (len rest.threads == 0) (ends status rest) rest (remove s.threads tid) refl refl in
    timed_cond (eq_by_cmp nat_cmp q tid) None (get s.threads q) (get s.threads q) (λ e t. absurd t) (λ t. t)
    (subst (λ (o : Option Thread). IsTimed o)
    (ap (λ (m : FinMap nat_cmp Thread). get m q) same ∙ get-remove nat_cmp_total s.threads tid q) h)

-- a thread is put at its place
put_others : (tid next : ℕ) (t : Thread) (s : State) → (q : ℕ) → q ≢ tid → (q ≡ next → IsTimed (Some t) → IsTimed (get s.threads q)) →
    IsTimed (get (insert s.threads next t) q) → IsTimed (get s.threads q)
put_others tid next t s q apart there h =
    timed_cond (eq_by_cmp nat_cmp q next) (Some t) (get s.threads q) (get s.threads q) (λ e t. there (same_tid q next e) t) (λ t. t)
    (subst (λ (o : Option Thread). IsTimed o) (get-insert nat_cmp_total s.threads next t q) h)

-- ---- the child of clone

same_waits : (b : Bool) (x y : Thread) → x.wait ≡ None → y.wait ≡ None → (if b then x else y).wait ≡ None
same_waits true x y h g = h
same_waits false x y h g = g

child_runs : (t : Thread) → t.wait ≡ None → (child_of t).wait ≡ None
child_runs t runs =
    let zeroed : Thread = set_register 10 0 t in
    let stacked : Thread = if argument t 1 == 0 then zeroed else set_register 2 (argument t 1) zeroed in
    let stacked_runs : stacked.wait ≡ None = same_waits (argument t 1 == 0) zeroed (set_register 2 (argument t 1) zeroed) runs runs in
    same_waits (has_flag (argument t 0) 0x80000) (set_register 4 (argument t 3) stacked) stacked stacked_runs stacked_runs

runs_untimed : (t : Thread) → t.wait ≡ None → IsTimed (Some t) → ⊥
runs_untimed t runs h = subst (λ (o : Option FutexWait). IsSomeAnd o (λ w. IsSome w.timeout)) runs h

-- ---- rows

abbrev RowOthers : ℕ → Row → State → Type 0
RowOthers tid (Returns result written change) s = Others tid s (change s)
RowOthers tid (NoResult written change) s = Others tid s (change s)
RowOthers tid (AsksInput a count) s = Unit {0}
RowOthers tid (AsksRandom a count) s = Unit {0}
RowOthers tid (AsksTime a) s = Unit {0}

record RowKeeps (tid : ℕ) (row : Row) (s : State) : Type 0 where
  pub others : RowOthers tid row s

results_others : (tid value : ℕ) (s : State) → Others tid s (results tid value s)
results_others tid value s = change_others tid tid (set_register 10 value) s (λ t. refl)

after_others : (row : Row) (tid : ℕ) (r : CallRecord) (s : State) → RowOthers tid row s → Others tid s (after_call row tid r s)
after_others (Returns result written change) tid r s h =
    both_others tid s (change s) (results tid r.result (writes r.written (change s))) h
    (results_others tid r.result (writes r.written (change s)))
after_others (NoResult written change) tid r s h = h
after_others (AsksInput a count) tid r s h = results_others tid r.result (writes r.written s)
after_others (AsksRandom a count) tid r s h = results_others tid r.result (writes r.written s)
after_others (AsksTime a) tid r s h = results_others tid r.result (writes r.written s)

module _ (tid : ℕ) (s : State) (t : Thread) where
  if_row : (b : Bool) (x y : Row) → RowKeeps tid x s → RowKeeps tid y s → RowKeeps tid (if b then x else y) s
  if_row true x y h g = h
  if_row false x y h g = g

  is : {row : Row} → RowOthers tid row s → RowKeeps tid row s
  is h = record { others = h }

  -- a row that changes no thread
  same : (result : ℕ) → RowKeeps tid (only_returns result) s
  same result = is (λ q apart h. h)

  failing : (errno : ℕ) → RowKeeps tid (fails errno) s
  failing errno = is (λ q apart h. h)

  read_others : RowKeeps tid (read_row s t) s
  read_others =
      let count = transfer (argument t 2) in
      if_row (not (argument t 0 == 0)) _ _ (failing 9) (if_row (count == 0) _ _ (same 0)
      (if_row (not (writable s.memory (argument t 1) count)) _ _ (failing 14) (is tt)))

  write_others : RowKeeps tid (write_row s t) s
  write_others =
      let count = transfer (argument t 2) in
      if_row (not (is_output (argument t 0))) _ _ (failing 9)
      (if_row (not (readable s.memory (argument t 1) count)) _ _ (failing 14) (same count))

  writev_others : RowKeeps tid (writev_row s t) s
  writev_others =
      let count = argument t 2 in
      let buffers = buffers_at s.memory (argument t 1) count in
      if_row (not (is_output (argument t 0))) _ _ (failing 9) (if_row (nat_lt 1024 count) _ _ (failing 22)
      (if_row (not (readable s.memory (argument t 1) (8 * count))) _ _ (failing 14)
      (if_row (nat_lt (2 ^ 31 - 1) (total_len buffers)) _ _ (failing 22)
      (if_row (not (all_readable s.memory (clipped 65_536 buffers))) _ _ (failing 14) (same (transfer (total_len buffers)))))))

  exit_others : RowKeeps tid (exit_row tid s t) s
  exit_others =
      let left : State = wakes t.clear 1 s in
      if_row (clears s t) _ _
      (is (both_others tid s left (leaves tid (argument t 0) left) (all_woken_others tid (waiters s t.clear 1) s)
      (leaves_others tid (argument t 0) left)))
      (is (leaves_others tid (argument t 0) s))

  wait_others : (asked : Result (Option Timeout) ℕ) → RowKeeps tid (wait_row tid s t asked) s
  wait_others (Err errno) = failing errno
  wait_others (Ok timeout) =
      let a = argument t 0 in
      if_row (not (readable s.memory a 4)) _ _ (failing 14) (if_row (not (word_at s.memory a == argument t 2)) _ _ (failing 11)
      (is (waits_others tid (record { address = a; timeout = timeout }) s)))

  futex_others : RowKeeps tid (futex_row tid s t) s
  futex_others =
      let a = argument t 0 in
      let op = argument t 1 - argument t 1 / 128 % 2 * 128 in
      if_row (nat_lt 1 op) _ _ (failing 38) (if_row (not (a % 4 == 0)) _ _ (failing 22)
      (if_row (op == 1) _ _ (is (all_woken_others tid (waiters s a (argument t 2)) s))
      (wait_others (asked_timeout s.version s.memory (argument t 3)))))

  clone_others : t.wait ≡ None → RowKeeps tid (clone_row s t) s
  clone_others runs =
      let next = s.next_tid in
      if_row (not (are_clone_flags (argument t 0))) _ _ (failing 22)
      (if_row (nat_le (live_threads s.version) (len s.threads) || nat_lt (2 ^ 31 - 1) next) _ _ (failing 11)
      (if_row (not (all_writable s.memory (tid_places t))) _ _ (failing 14)
      (is (λ q apart. put_others tid next (child_of t) s q apart
      (λ e h. absurd (runs_untimed (child_of t) (child_runs t runs) h))))))

  brk_others : RowKeeps tid (brk_row s t) s
  brk_others =
      let a = argument t 0 in
      let from = pages_for s.program_break in
      let to = pages_for a in
      let grown : Memory = mapped (from * page_bytes) ((to - from) * page_bytes) (permissions_of 3) s.memory in
      if_row (nat_lt a s.opening_break || nat_lt 0x70000000 a) _ _ (same s.program_break)
      (if_row (nat_le to from) _ _ (is (λ q apart h. h))
      (if_row (not (all_free s.memory from (to - from)) || nat_lt page_limit (page_count grown)) _ _ (same s.program_break)
      (is (λ q apart h. h))))

  munmap_others : RowKeeps tid (munmap_row s t) s
  munmap_others =
      let a = argument t 0 in
      let pages = pages_for (argument t 1) in
      if_row (not (a % page_bytes == 0) || (argument t 1 == 0 || nat_lt 0x80000000 (a + pages * page_bytes))) _ _ (failing 22)
      (is (λ q apart h. h))

  maps_others : (place : Option ℕ) → RowKeeps tid (maps_at s t place) s
  maps_others None = failing 12
  maps_others (Some page) =
      let pages = pages_for (argument t 1) in
      let new : Memory = mapped (page * page_bytes) (pages * page_bytes) (permissions_of (argument t 2)) s.memory in
      if_row (nat_lt page_limit (page_count new)) _ _ (failing 12) (is (λ q apart h. h))

  mmap_others : RowKeeps tid (mmap_row s t) s
  mmap_others =
      let flags = argument t 3 in
      if_row (argument t 1 == 0 || (nat_lt 7 (argument t 2) || (not (has_flag flags 2) || (not (has_flag flags 0x20) || (has_flag flags 1
      || (has_flag flags 0x10 && not (argument t 0 % page_bytes == 0))))))) (fails 22) (maps_at s t (mmap_place s t))
      (failing 22) (maps_others (mmap_place s t))

  mprotect_others : RowKeeps tid (mprotect_row s t) s
  mprotect_others =
      let a = argument t 0 in
      let pages = pages_for (argument t 1) in
      if_row (not (a % page_bytes == 0) || nat_lt 7 (argument t 2)) _ _ (failing 22)
      (if_row (not (all_mapped s.memory (a / page_bytes) pages)) _ _ (failing 12) (is (λ q apart h. h)))

  getrandom_others : RowKeeps tid (getrandom_row s t) s
  getrandom_others =
      let count = min (argument t 1) 256 in
      if_row (nat_lt 7 (argument t 2)) _ _ (failing 22) (if_row (count == 0) _ _ (same 0)
      (if_row (not (writable s.memory (argument t 0) count)) _ _ (failing 14) (is tt)))

  clock_gettime_others : RowKeeps tid (clock_gettime_row s t) s
  clock_gettime_others =
      if_row (nat_lt 1 (argument t 0)) _ _ (failing 22)
      (if_row (not (writable s.memory (argument t 1) 16)) _ _ (failing 14) (is tt))

  row_others : (call : Syscall) → t.wait ≡ None → RowKeeps tid (row_of call tid s t) s
  unfolding row_of
  row_others calls.Read runs = read_others
  row_others calls.Write runs = write_others
  row_others calls.Writev runs = writev_others
  row_others calls.Exit runs = exit_others
  row_others calls.ExitGroup runs = is (λ q apart h. h)
  row_others calls.SetTidAddress runs =
      is (change_others tid tid (λ t'. record t' { clear = argument t 0 }) s (λ t'. refl))
  row_others calls.Futex runs = futex_others
  row_others calls.SchedYield runs = same 0
  row_others calls.Getpid runs = same 1
  row_others calls.Gettid runs = same tid
  row_others calls.Brk runs = brk_others
  row_others calls.Munmap runs = munmap_others
  row_others calls.Clone runs = clone_others runs
  row_others calls.Mmap runs = mmap_others
  row_others calls.Mprotect runs = mprotect_others
  row_others calls.Getrandom runs = getrandom_others
  row_others calls.ClockGettime runs = clock_gettime_others
  row_others calls.Other runs = failing 38

-- ---- frames

call_others : (s : State) (tid : ℕ) (answer : Answer) (r : CallRecord) (after : State) → Calls s tid answer r after → Others tid s after
call_others s tid answer r after p =
    subst (λ (q : State). Others tid s q) (sym p.leaves)
    (after_others (call_row s tid p.thread) tid r s (row_others tid s p.thread _ p.running).others)

hart_others : (tid : ℕ) (t : Thread) (h : Hart) (s : State) → Others tid s (with_hart tid t h s)
hart_others tid t h s q apart = put_others tid tid (record t { regs = h.regs }) s q apart (λ e timed. absurd (apart e))

steps_others : (n tid : ℕ) (s after : State) → Steps n tid s after → Others tid s after
steps_others zero tid s after e = subst (λ (x : State). Others tid s x) (sym e) (λ q apart h. h)
steps_others (suc n) tid s after p =
    both_others tid s p.0 after
    (subst (λ (x : State). Others tid s x) (sym p.1.after_is) (hart_others tid p.1.thread p.1.hart s)) (steps_others n tid p.0 after p.2)

answers_others : (o : Option CallRecord) (tid : ℕ) (before after : State) → AnswersCall o tid before after → Others tid before after
answers_others None tid before after e = subst (λ (x : State). Others tid before x) (sym e) (λ q apart h. h)
answers_others (Some r) tid before after (called, answer, calls, answered) =
    both_others tid before called after
    (subst (λ (x : State). Others tid before x) (sym calls.after_is) (hart_others tid calls.thread calls.hart before))
    (call_others called tid answer r after answered)

expiry_others : (b : Bool) (tid : ℕ) (s : State) → Others tid s (expired_by b tid s)
expiry_others false tid s = λ q apart h. h
expiry_others true tid s = both_others tid s (woken s tid) (results tid timed_out (woken s tid)) (woken_others tid tid s)
    (results_others tid timed_out (woken s tid))

closing_others : (o : Option GuestEnd) (tid : ℕ) (s : State) → Others tid s (closed_by o s)
closing_others None tid s = λ q apart h. h
closing_others (Some end) tid s = λ q apart h. h

-- behind a frame no other thread waits with a timeout than those that did before it, but for its own
pub frame_others : (s : State) (f : Frame) (new : State) → FrameStep s f new → Others f.tid s new
frame_others s f new step =
    let p = frame_parts f.end s f.tid f.count new step.goes in
    let over : State = expired_by (is_expiry f.end) f.tid p.after in
    let last : State = closed_by (guest_end f.end) over in
    subst (λ (x : State). Others f.tid s x) (sym p.new_is)
    (both_others f.tid s p.before last (steps_others (plain_steps f.end f.count) f.tid s p.before p.steps)
    (both_others f.tid p.before p.after last (answers_others (call_in f.end) f.tid p.before p.after p.answers)
    (both_others f.tid p.after over last (expiry_others (is_expiry f.end) f.tid p.after) (closing_others (guest_end f.end) f.tid over))))
