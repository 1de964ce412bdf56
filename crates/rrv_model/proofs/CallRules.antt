-- What calls leave of a state, row by row.
use Rattle.std.proofs.Common.{◌≡◌, ℕ, ◌+◌, ◌-◌, ◌*◌, ◌/◌, ◌%◌, ◌^◌, ◌<◌, ◌≤◌, min, Bool, true, false, not, ◌&&◌, ◌||◌, nat_lt, nat_le, ◌==◌, if◌then◌else◌, List, [], ◌∷◌, ◌++◌, length, filter, Option, Some, None, Result, Ok, Err, All, IfSome, refl, sym, ◌∙◌, subst, arith}
use Rattle.std.specs.Prelude.{flat_map, IsTrue}
use Rattle.std.specs.FinMap.{insert, len}
use Rattle.std.specs.Int.{w32, w64, to_le_bytes}
use Rattle.std.proofs.lemmas.Bool.Decides.{nat_tests}
use Rattle.std.proofs.lemmas.List.{length-take}
use Rattle.std.proofs.lemmas.List.Elements.{All-append}
use Rattle.rrv_model.specs.declared.machine.Thread.{Thread}
use Rattle.rrv_model.specs.declared.machine.Timeout.{Timeout}
use Rattle.rrv_model.specs.declared.machine.Version.{Version}
use Rattle.rrv_model.specs.declared.machine.Version.TheVariants.{One, Two}
use Rattle.rrv_model.specs.declared.record.CallRecord.{CallRecord}
use Rattle.rrv_model.specs.Memory.{Memory, IsMemory, mapped, unmapped, protected, page_count, page_bytes, pages_for, highest_free_up_to, readable, writable, all_mapped, all_free}
use Rattle.rrv_model.specs.State.{State, IsState, IsThread, IsTimeout, IsRunning, thread_at, live_threads}
use Rattle.rrv_model.specs.Step.{word_at}
use Rattle.rrv_model.specs.CallRows.{Row, Returns, NoResult, AsksInput, AsksRandom, AsksTime, argument, set_register, asked_timeout, timeout_at, wait_row, fails, only_returns, range, transfer, is_output, read_row, write_row, writev_row, buffers_at, clipped, all_readable, total_len, exit_row, clears, wakes, waits_at, waiters, futex_row, clone_row, child_of, tid_places, are_clone_flags, has_flag, all_writable, permissions_of, page_limit, brk_row, munmap_row, mmap_place, maps_at, mmap_row, mprotect_row, getrandom_row, clock_gettime_row, row_of, syscall_of}
use Rattle.rrv_model.specs.declared.syscall.Syscall.{Syscall}
use Rattle.rrv_model.specs.declared.syscall.Syscall.TheVariants as calls
use Rattle.rrv_model.specs.Calls.{Answer, Silence, Bytes, Time, Calls, HasRecord, after_call, call_row, writes, results}
use Rattle.rrv_model.proofs.FreePlaces.{highest_free_is_found}
use Rattle.rrv_model.proofs.MemoryRules.{AreWritten, all-low_first, memory-mapped, memory-unmapped, memory-protected}
use Rattle.rrv_model.proofs.StepRules.{small-register, regs-with_register}
use Rattle.rrv_model.proofs.ThreadRules.{keeps_spawned, room_left, wakes_running}
use Rattle.rrv_model.proofs.StateRules.{memory_of_state, thread_of_state, keeps-threads}
use Rattle.rrv_model.proofs.CallKeeps.{Keeps, number, nothing_keeps, both_keep, child_tells, memory_keeps, break_keeps, clear_keeps, wakes_keep, waits_keeps, ends_keeps, leaves_keeps, spawn_keeps, answer_keeps, written_keeps}

-- ---- what a row leaves

-- what a row answers, writes and changes keeps what a call keeps
abbrev RowKeeps : (n tid : ℕ) → Row → State → Type 0
RowKeeps n tid (Returns result written change) s = (IsState s → result < 2 ^ 32) × AreWritten written × Keeps n tid s (change s)
RowKeeps n tid (NoResult written change) s = AreWritten written × Keeps n tid s (change s)
RowKeeps n tid (AsksInput a count) s = count < 2 ^ 32
RowKeeps n tid (AsksRandom a count) s = count < 2 ^ 32
RowKeeps n tid (AsksTime a) s = Unit {0}

in_range : (a : ℕ) (bytes : List ℕ) → All (λ b. b < 256) bytes → AreWritten (range a bytes)
in_range a [] small = tt
in_range a (b ∷ bytes) small = (small, tt)

time_bytes : (seconds nanoseconds : ℕ) → All (λ b. b < 256) (to_le_bytes w64 seconds ++ to_le_bytes w64 nanoseconds)
time_bytes seconds nanoseconds =
    All-append (λ b. b < 256) (to_le_bytes w64 seconds) (to_le_bytes w64 nanoseconds) (all-low_first 8 0 seconds)
    (all-low_first 8 0 nanoseconds)

-- a result and what was written
answered : (n tid : ℕ) (r q : CallRecord) (s s' : State) → r ≡ q → (IsState s → q.result < 2 ^ 32) → AreWritten q.written →
    Keeps n tid s s' → Keeps n tid s (results tid r.result (writes r.written s'))
answered n tid r q s s' e low small keeps =
    subst (λ (r : CallRecord). Keeps n tid s (results tid r.result (writes r.written s'))) (sym e)
    (answer_keeps n tid q.result q.written s s' low small keeps)

-- what the outside answered to a question
given : (n tid value a : ℕ) (bytes : List ℕ) (r : CallRecord) (s : State) → r ≡ record { result = value; written = range a bytes } →
    value < 2 ^ 32 → All (λ b. b < 256) bytes → Keeps n tid s (results tid r.result (writes r.written s))
given n tid value a bytes r s e low small =
    answered n tid r (record { result = value; written = range a bytes }) s s e (λ h. low) (in_range a bytes small) (nothing_keeps n tid s)

after_keeps : (n : ℕ) (row : Row) (tid : ℕ) (answer : Answer) (r : CallRecord) (s : State) → HasRecord row answer r →
    RowKeeps n tid row s → Keeps n tid s (after_call row tid r s)
after_keeps n (Returns result written change) tid answer r s has keeps =
    answered n tid r (record { result = result; written = written }) s (change s) has keeps.0 keeps.1 keeps.2
after_keeps n (NoResult written change) tid answer r s has keeps =
    subst (λ (r : CallRecord). Keeps n tid s (writes r.written (change s))) (sym has)
    (written_keeps n tid written s (change s) keeps.0 keeps.1)
after_keeps n (AsksInput a count) tid (Bytes bytes) r s has keeps =
    let few : length bytes ≤ count = has.0 in
    given n tid (length bytes) a bytes r s has.2 (omega (arith, few)) has.1
after_keeps n (AsksRandom a count) tid (Bytes bytes) r s has keeps = given n tid count a bytes r s has.2 keeps has.1
after_keeps n (AsksTime a) tid (Time seconds nanoseconds) r s has keeps =
    given n tid 0 a (to_le_bytes w64 seconds ++ to_le_bytes w64 nanoseconds) r s has.2 (omega arith) (time_bytes seconds nanoseconds)
after_keeps n (AsksInput a count) tid Silence r s has keeps = absurd has
after_keeps n (AsksInput a count) tid (Time seconds nanoseconds) r s has keeps = absurd has
after_keeps n (AsksRandom a count) tid Silence r s has keeps = absurd has
after_keeps n (AsksRandom a count) tid (Time seconds nanoseconds) r s has keeps = absurd has
after_keeps n (AsksTime a) tid Silence r s has keeps = absurd has
after_keeps n (AsksTime a) tid (Bytes bytes) r s has keeps = absurd has

-- ---- numbers and threads

small-argument : {v : Version} (t : Thread) (k : ℕ) → IsThread v t → argument t k < 2 ^ 32
small-argument t k is = small-register t.regs (10 + k) is.regs

small-transfer : (count : ℕ) → transfer count < 2 ^ 32
small-transfer count = omega arith

low_tid : (o : Option Thread) (t : Thread) (tid next : ℕ) → o ≡ Some t → next ≤ 2 ^ 31 → IfSome o (λ _. (1 ≤ tid) × (tid < next)) →
    tid < 2 ^ 32
low_tid o t tid next e most h = let low : (1 ≤ tid) × (tid < next) =
    subst (λ (o : Option Thread). IfSome o (λ _. (1 ≤ tid) × (tid < next))) e h in omega (arith, low.1)

small-tid : (s : State) (tid : ℕ) (t : Thread) → thread_at s tid ≡ Some t → IsState s → tid < 2 ^ 32
small-tid s tid t there h = low_tid (thread_at s tid) t tid s.next_tid there h.rules.threads.next_tid (h.rules.threads.tids tid)

few_waiters : (s : State) (a count : ℕ) → count < 2 ^ 32 → length (waiters s a count) < 2 ^ 32
few_waiters s a count low = let few = length-take count (filter (waits_at s a) s.waiting) in omega (arith, few)

-- what is asked is a timeout, or the errno is a word
abbrev IsAsked : Version → Result (Option Timeout) ℕ → Type 0
IsAsked v (Ok timeout) = IfSome timeout (IsTimeout v)
IsAsked v (Err errno) = (1 ≤ errno) × (errno < 2 ^ 32)

told : (m : Memory) (a : ℕ) (b c : Bool) → (c ≡ false → IsTimeout Two (timeout_at m a)) →
    IsAsked Two (if b then Err 14 else if c then Err 22 else Ok (Some (timeout_at m a)))
told m a true c is = (omega arith, omega arith)
told m a false true is = (omega arith, omega arith)
told m a false false is = is refl

asked_if : (v : Version) (b : Bool) (other : Result (Option Timeout) ℕ) → IsAsked v other → IsAsked v (if b then Ok None else other)
asked_if v true other h = tt
asked_if v false other h = h

asked : (v : Version) (m : Memory) (a : ℕ) → IsAsked v (asked_timeout v m a)
asked One m a = asked_if One (a == 0) _ (omega arith, omega arith)
asked Two m a =
    asked_if Two (a == 0) _
    (told m a (not (readable m a 16)) (nat_le (2 ^ 63) (timeout_at m a).seconds || nat_le (10 ^ 9) (timeout_at m a).nanoseconds)
    (λ e. record { version = tt; seconds = grind (arith, nat_tests); nanoseconds = grind (arith, nat_tests) }))

zeros : All (λ b. b < 256) (0 ∷ 0 ∷ 0 ∷ 0 ∷ [])
zeros = all-low_first 4 0 0

-- ---- the child of clone

if_thread : {v : Version} (b : Bool) (x y : Thread) → IsThread v x → IsThread v y → IsThread v (if b then x else y)
if_thread true x y h g = h
if_thread false x y h g = g

with_value : {v : Version} (r value : ℕ) (t : Thread) → value < 2 ^ 32 → IsThread v t → IsThread v (set_register r value t)
with_value r value t low is = record { regs = regs-with_register r value t.regs low is.regs; waits = is.waits; clear = is.clear }

small_if : (b : Bool) (n : ℕ) → n < 2 ^ 32 → (if b then n else 0) < 2 ^ 32
small_if true n h = h
small_if false n h = omega arith

child_is : {v : Version} (t : Thread) → IsThread v t → IsThread v (child_of t)
child_is {v = v} t is =
    let flags = argument t 0 in
    let zeroed : Thread = set_register 10 0 t in
    let is_zeroed : IsThread v zeroed = with_value 10 0 t (omega arith) is in
    let stacked : Thread = if argument t 1 == 0 then zeroed else set_register 2 (argument t 1) zeroed in
    let is_stacked : IsThread v stacked =
    if_thread (argument t 1 == 0) zeroed _ is_zeroed (with_value 2 (argument t 1) zeroed (small-argument t 1 is) is_zeroed) in
    let pointed : Thread = if has_flag flags 0x80000 then set_register 4 (argument t 3) stacked else stacked in
    let is_pointed : IsThread v pointed =
    if_thread (has_flag flags 0x80000) _ stacked (with_value 4 (argument t 3) stacked (small-argument t 3 is) is_stacked) is_stacked in
    record {
      regs = is_pointed.regs;
      waits = is_pointed.waits;
      clear = small_if (has_flag flags 0x200000) (argument t 4) (small-argument t 4 is);
    }

same_waits : (b : Bool) (x y : Thread) → x.wait ≡ None → y.wait ≡ None → (if b then x else y).wait ≡ None
same_waits true x y h g = h
same_waits false x y h g = g

child_runs : (t : Thread) → t.wait ≡ None → (child_of t).wait ≡ None
child_runs t runs =
    let flags = argument t 0 in
    let zeroed : Thread = set_register 10 0 t in
    let stacked : Thread = if argument t 1 == 0 then zeroed else set_register 2 (argument t 1) zeroed in
    let stacked_runs : stacked.wait ≡ None = same_waits (argument t 1 == 0) zeroed (set_register 2 (argument t 1) zeroed) runs runs in
    same_waits (has_flag flags 0x80000) (set_register 4 (argument t 3) stacked) stacked stacked_runs stacked_runs

words_written : (places : List ℕ) (word : ℕ) → AreWritten (flat_map (λ a. range a (to_le_bytes w32 word)) places)
words_written [] word = tt
words_written (a ∷ places) word = (all-low_first 4 0 word, words_written places word)

-- ---- places in memory

or_right : (a b : Bool) → b ≡ true → IsTrue (a || b)
or_right true b h = refl
or_right false b h = h

-- a page with W has R
readable_too : (prot : ℕ) → IsTrue (permissions_of prot).write → IsTrue (permissions_of prot).read
readable_too prot w = or_right (has_flag prot 1) (has_flag prot 2) w

-- the pages of a mapping lie from 0x1000 up to 0x7FFFFFFF
abbrev IsPlace : ℕ → Option ℕ → Type 0
IsPlace pages o = IfSome o (λ page. (1 ≤ page) × (page + pages ≤ 0x80000))

if_place : (b : Bool) (x y : Option ℕ) (pages : ℕ) → (b ≡ true → IsPlace pages x) → (b ≡ false → IsPlace pages y) →
    IsPlace pages (if b then x else y)
if_place true x y pages f g = f refl
if_place false x y pages f g = g refl

highest_place : (m : Memory) (pages : ℕ) (o : Option ℕ) → highest_free_up_to (0x70000 - pages) m pages ≡ o → IsPlace pages o
highest_place m pages None e = tt
highest_place m pages (Some page) e =
    let place = (((highest_free_is_found m pages).0 page).0 e).place in
    (place.low, omega (arith, place.high))

mmap_place_is : (s : State) (t : Thread) → IsPlace (pages_for (argument t 1)) (mmap_place s t)
mmap_place_is s t =
    let a = argument t 0 in
    let pages = pages_for (argument t 1) in
    if_place (has_flag (argument t 3) 0x10) _ _ pages
    (λ e. if_place (nat_le 0x1000 a && nat_le (a + pages * page_bytes) 0x80000000) _ None pages
    (λ e. (grind (arith, nat_tests), grind (arith, nat_tests))) (λ e. tt))
    (λ e. highest_place s.memory pages _ refl)

-- ---- rows

module _ (n tid : ℕ) (s : State) (t : Thread) where
  if_row : (b : Bool) (x y : Row) → (b ≡ true → RowKeeps n tid x s) → (b ≡ false → RowKeeps n tid y s) →
      RowKeeps n tid (if b then x else y) s
  if_row true x y f g = f refl
  if_row false x y f g = g refl

  failing : (errno : ℕ) → 0 < errno → RowKeeps n tid (fails errno) s
  failing errno some = (λ h. omega arith, tt, nothing_keeps n tid s)

  answering : (result : ℕ) → (IsState s → result < 2 ^ 32) → RowKeeps n tid (only_returns result) s
  answering result low = (low, tt, nothing_keeps n tid s)

  read_keeps : RowKeeps n tid (read_row s t) s
  read_keeps =
      let count = transfer (argument t 2) in
      if_row (not (argument t 0 == 0)) _ _ (λ e. failing 9 (omega arith)) (λ e.
      if_row (count == 0) _ _ (λ e. answering 0 (λ h. omega arith)) (λ e.
      if_row (not (writable s.memory (argument t 1) count)) _ _ (λ e. failing 14 (omega arith)) (λ e. small-transfer (argument t 2))))

  write_keeps : RowKeeps n tid (write_row s t) s
  write_keeps =
      let count = transfer (argument t 2) in
      if_row (not (is_output (argument t 0))) _ _ (λ e. failing 9 (omega arith)) (λ e.
      if_row (not (readable s.memory (argument t 1) count)) _ _ (λ e. failing 14 (omega arith))
      (λ e. answering count (λ h. small-transfer (argument t 2))))

  writev_keeps : RowKeeps n tid (writev_row s t) s
  writev_keeps =
      let count = argument t 2 in
      let buffers = buffers_at s.memory (argument t 1) count in
      if_row (not (is_output (argument t 0))) _ _ (λ e. failing 9 (omega arith)) (λ e.
      if_row (nat_lt 1024 count) _ _ (λ e. failing 22 (omega arith)) (λ e.
      if_row (not (readable s.memory (argument t 1) (8 * count))) _ _ (λ e. failing 14 (omega arith)) (λ e.
      if_row (nat_lt (2 ^ 31 - 1) (total_len buffers)) _ _ (λ e. failing 22 (omega arith)) (λ e.
      if_row (not (all_readable s.memory (clipped 65_536 buffers))) _ _ (λ e. failing 14 (omega arith)) (λ e.
      answering (transfer (total_len buffers)) (λ h. small-transfer (total_len buffers)))))))

  exit_keeps : IsRunning (thread_at s tid) → n ≡ 93 → RowKeeps n tid (exit_row tid s t) s
  exit_keeps runs exits =
      let woken : State = wakes t.clear 1 s in
      let left = leaves_keeps n tid (argument t 0) woken (wakes_running t.clear 1 tid s runs) exits in
      if_row (clears s t) _ _
      (λ e. ((zeros, tt), both_keep n tid s woken _ (wakes_keep n tid t.clear 1 s) left))
      (λ e. (tt, leaves_keeps n tid (argument t 0) s runs exits))

  wait_keeps : (o : Result (Option Timeout) ℕ) → IsAsked s.version o → (IsState s → IsThread s.version t) →
      IsRunning (thread_at s tid) → RowKeeps n tid (wait_row tid s t o) s
  wait_keeps (Err errno) ask is runs = failing errno ask.0
  wait_keeps (Ok timeout) ask is runs =
      let a = argument t 0 in
      if_row (not (readable s.memory a 4)) _ _ (λ e. failing 14 (omega arith)) (λ e.
      if_row (not (word_at s.memory a == argument t 2)) _ _ (λ e. failing 11 (omega arith)) (λ e. (
        λ h. omega arith,
        tt,
        waits_keeps n tid (record { address = a; timeout = timeout }) s runs
            (λ h. record { address = small-argument t 0 (is h); timeout = ask }),
      )))

  futex_keeps : thread_at s tid ≡ Some t → IsRunning (thread_at s tid) → RowKeeps n tid (futex_row tid s t) s
  futex_keeps there runs =
      let small : (k : ℕ) → IsState s → argument t k < 2 ^ 32 = λ k h. small-argument t k (thread_of_state s tid t there h) in
      let a = argument t 0 in
      let op = argument t 1 - argument t 1 / 128 % 2 * 128 in
      if_row (nat_lt 1 op) _ _ (λ e. failing 38 (omega arith)) (λ e.
      if_row (not (a % 4 == 0)) _ _ (λ e. failing 22 (omega arith)) (λ e.
      if_row (op == 1) _ _
      (λ e. (λ h. few_waiters s a (argument t 2) (small 2 h), tt, wakes_keep n tid a (argument t 2) s)) (λ e.
      wait_keeps (asked_timeout s.version s.memory (argument t 3)) (asked s.version s.memory (argument t 3))
      (λ h. thread_of_state s tid t there h) runs)))

  clone_keeps : thread_at s tid ≡ Some t → t.wait ≡ None → number t ≡ n → RowKeeps n tid (clone_row s t) s
  clone_keeps there runs tells =
      let next = s.next_tid in
      if_row (not (are_clone_flags (argument t 0))) _ _ (λ e. failing 22 (omega arith)) (λ e.
      if_row (nat_le (live_threads s.version) (len s.threads) || nat_lt (2 ^ 31 - 1) next) _ _ (λ e. failing 11 (omega arith)) (λ room.
      if_row (not (all_writable s.memory (tid_places t))) _ _ (λ e. failing 14 (omega arith)) (λ e.
      let left = room_left (live_threads s.version) (len s.threads) next room in (
        λ h. omega (arith, left.1),
        words_written (tid_places t) next,
        spawn_keeps n tid next (child_of t) s (child_tells t ∙ tells) (λ h.
            keeps-threads (insert s.threads next (child_of t)) s.waiting (next + 1) s
            (keeps_spawned s.threads s.waiting next (child_of t) h.rules.threads left.0 left.1
            (child_is t (thread_of_state s tid t there h)) (child_runs t runs)) h),
      ))))

  brk_keeps : RowKeeps n tid (brk_row s t) s
  brk_keeps =
      let a = argument t 0 in
      let from = pages_for s.program_break in
      let to = pages_for a in
      let shrunk : Memory = unmapped (to * page_bytes) ((from - to) * page_bytes) s.memory in
      let grown : Memory = mapped (from * page_bytes) ((to - from) * page_bytes) (permissions_of 3) s.memory in
      let stays : RowKeeps n tid (only_returns s.program_break) s =
      answering s.program_break (λ h. omega (arith, h.rules.breaks.1)) in
      if_row (nat_lt a s.opening_break || nat_lt 0x70000000 a) _ _ (λ e. stays) (λ e.
      let low : s.opening_break ≤ a = grind (arith, nat_tests) in
      let high : a ≤ 0x70000000 = grind (arith, nat_tests) in
      if_row (nat_le to from) _ _ (λ e. (
        λ h. omega (arith, high),
        tt,
        break_keeps n tid shrunk a s (λ h. memory-unmapped to (from - to) s.memory (memory_of_state s h)) low high,
      ))
      (λ e.
      if_row (not (all_free s.memory from (to - from)) || nat_lt page_limit (page_count grown)) _ _ (λ e. stays) (λ few.
      let most : page_count grown ≤ 16_384 = grind (arith, nat_tests) in
      let is : IsState s → IsMemory grown = λ h.
      memory-mapped from (to - from) (permissions_of 3) s.memory (readable_too 3) (omega (arith, h.rules.opening, h.rules.breaks.0))
      (omega (arith, high, h.rules.breaks.1)) most (memory_of_state s h) in
      (λ h. omega (arith, high), tt, break_keeps n tid grown a s is low high))))

  munmap_keeps : RowKeeps n tid (munmap_row s t) s
  munmap_keeps =
      let a = argument t 0 in
      let pages = pages_for (argument t 1) in
      let rest : Memory = unmapped a (pages * page_bytes) s.memory in
      if_row (not (a % page_bytes == 0) || (argument t 1 == 0 || nat_lt 0x80000000 (a + pages * page_bytes))) _ _
      (λ e. failing 22 (omega arith)) (λ e.
      let whole : a / page_bytes * page_bytes ≡ a = grind (arith, nat_tests) in
      let is : IsState s → IsMemory rest = λ h.
      subst (λ a. IsMemory (unmapped a (pages * page_bytes) s.memory)) whole
      (memory-unmapped (a / page_bytes) pages s.memory (memory_of_state s h)) in
      (λ h. omega arith, tt, memory_keeps n tid rest s is))

  maps_keeps : (o : Option ℕ) → IsPlace (pages_for (argument t 1)) o → RowKeeps n tid (maps_at s t o) s
  maps_keeps None place = failing 12 (omega arith)
  maps_keeps (Some page) place =
      let pages = pages_for (argument t 1) in
      let new : Memory = mapped (page * page_bytes) (pages * page_bytes) (permissions_of (argument t 2)) s.memory in
      if_row (nat_lt page_limit (page_count new)) _ _ (λ e. failing 12 (omega arith)) (λ few.
      let most : page_count new ≤ 16_384 = grind (arith, nat_tests) in
      let is : IsState s → IsMemory new = λ h.
      memory-mapped page pages (permissions_of (argument t 2)) s.memory (readable_too (argument t 2)) place.0 place.1 most
      (memory_of_state s h) in
      (λ h. omega (arith, place.1), tt, memory_keeps n tid new s is))

  mmap_keeps : RowKeeps n tid (mmap_row s t) s
  mmap_keeps =
      let flags = argument t 3 in
      if_row (argument t 1 == 0 || (nat_lt 7 (argument t 2) || (not (has_flag flags 2) || (not (has_flag flags 0x20) || (has_flag flags 1
      || (has_flag flags 0x10 && not (argument t 0 % page_bytes == 0))))))) (fails 22) (maps_at s t (mmap_place s t))
      (λ e. failing 22 (omega arith)) (λ e. maps_keeps (mmap_place s t) (mmap_place_is s t))

  mprotect_keeps : RowKeeps n tid (mprotect_row s t) s
  mprotect_keeps =
      let a = argument t 0 in
      let pages = pages_for (argument t 1) in
      let p = permissions_of (argument t 2) in
      let new : Memory = protected a (pages * page_bytes) p s.memory in
      if_row (not (a % page_bytes == 0) || nat_lt 7 (argument t 2)) _ _ (λ e. failing 22 (omega arith)) (λ e.
      if_row (not (all_mapped s.memory (a / page_bytes) pages)) _ _ (λ e. failing 12 (omega arith)) (λ f.
      let whole : a / page_bytes * page_bytes ≡ a = grind (arith, nat_tests) in
      let is : IsState s → IsMemory new = λ h.
      subst (λ a. IsMemory (protected a (pages * page_bytes) p s.memory)) whole
      (memory-protected (a / page_bytes) pages p s.memory (readable_too (argument t 2)) (memory_of_state s h)) in
      (λ h. omega arith, tt, memory_keeps n tid new s is)))

  getrandom_keeps : RowKeeps n tid (getrandom_row s t) s
  getrandom_keeps =
      let count = min (argument t 1) 256 in
      if_row (nat_lt 7 (argument t 2)) _ _ (λ e. failing 22 (omega arith)) (λ e.
      if_row (count == 0) _ _ (λ e. answering 0 (λ h. omega arith)) (λ e.
      if_row (not (writable s.memory (argument t 0) count)) _ _ (λ e. failing 14 (omega arith)) (λ e. omega arith)))

  clock_gettime_keeps : RowKeeps n tid (clock_gettime_row s t) s
  clock_gettime_keeps =
      if_row (nat_lt 1 (argument t 0)) _ _ (λ e. failing 22 (omega arith)) (λ e.
      if_row (not (writable s.memory (argument t 1) 16)) _ _ (λ e. failing 14 (omega arith)) (λ e. tt))

  -- the call has the number n, which only that of exit looks at
  row_keeps : (call : Syscall) → thread_at s tid ≡ Some t → t.wait ≡ None → IsRunning (thread_at s tid) → number t ≡ n →
      (call ≡ calls.Exit → n ≡ 93) → RowKeeps n tid (row_of call tid s t) s
  unfolding row_of
  row_keeps calls.Read there waits runs tells exits = read_keeps
  row_keeps calls.Write there waits runs tells exits = write_keeps
  row_keeps calls.Writev there waits runs tells exits = writev_keeps
  row_keeps calls.Exit there waits runs tells exits = exit_keeps runs (exits refl)
  row_keeps calls.ExitGroup there waits runs tells exits = (tt, ends_keeps n tid (argument t 0) s)
  row_keeps calls.SetTidAddress there waits runs tells exits = (
    small-tid s tid t there,
    tt,
    clear_keeps n tid (argument t 0) s (λ h. small-argument t 0 (thread_of_state s tid t there h)),
  )
  row_keeps calls.Futex there waits runs tells exits = futex_keeps there runs
  row_keeps calls.SchedYield there waits runs tells exits = answering 0 (λ h. omega arith)
  row_keeps calls.Getpid there waits runs tells exits = answering 1 (λ h. omega arith)
  row_keeps calls.Gettid there waits runs tells exits = answering tid (small-tid s tid t there)
  row_keeps calls.Brk there waits runs tells exits = brk_keeps
  row_keeps calls.Munmap there waits runs tells exits = munmap_keeps
  row_keeps calls.Clone there waits runs tells exits = clone_keeps there waits tells
  row_keeps calls.Mmap there waits runs tells exits = mmap_keeps
  row_keeps calls.Mprotect there waits runs tells exits = mprotect_keeps
  row_keeps calls.Getrandom there waits runs tells exits = getrandom_keeps
  row_keeps calls.ClockGettime there waits runs tells exits = clock_gettime_keeps
  row_keeps calls.Other there waits runs tells exits = failing 38 (omega arith)

-- ---- calls

only_exit : (n : ℕ) → syscall_of n ≡ calls.Exit → n ≡ 93
only_exit n e = grind (arith, nat_tests)

-- a call keeps all this, whatever the outside answered
pub call_keeps : (s : State) (tid : ℕ) (answer : Answer) (r : CallRecord) (after : State) (p : Calls s tid answer r after) →
    Keeps (number p.thread) tid s after
call_keeps s tid answer r after p =
    let n = number p.thread in
    let runs : IsRunning (thread_at s tid) = subst (λ (o : Option Thread). IsRunning o) (sym p.there) p.running in
    subst (λ (q : State). Keeps n tid s q) (sym p.leaves)
    (after_keeps n (call_row s tid p.thread) tid answer r s p.records
    (row_keeps n tid s p.thread (syscall_of n) p.there p.running runs refl (only_exit n)))
