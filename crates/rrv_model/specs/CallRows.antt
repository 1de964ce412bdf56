-- What each call does: the subset of Linux calls that a guest may make, a row a call (Linux man pages, section 2).
use Rattle.std.specs.Prelude.{ℕ, zero, suc, ◌+◌, ◌-◌, ◌*◌, ◌/◌, ◌%◌, ◌^◌, min, Bool, true, false, not, ◌&&◌, ◌||◌}
use Rattle.std.specs.Prelude.{◌==◌, nat_lt, nat_le, bit_and, if◌then◌else◌, List, [], ◌∷◌, ◌++◌, length, take, drop, filter}
use Rattle.std.specs.Prelude.{flat_map, sum_by, fold, Option, Some, None, Result, Ok, Err, codes}
use Rattle.std.specs.FinMap.{FinMap, get, insert, remove, len}
use Rattle.std.specs.Ordering.{nat_cmp}
use Rattle.std.specs.Int.{w32, w64, from_le_bytes, to_le_bytes}
use Rattle.page_permissions.specs.declared.page.Permissions.{Permissions}
use Rattle.rrv_model.specs.declared.machine.Thread.{Thread}
use Rattle.rrv_model.specs.declared.machine.FutexWait.{FutexWait}
use Rattle.rrv_model.specs.declared.machine.Timeout.{Timeout}
use Rattle.rrv_model.specs.declared.machine.Version.{Version}
use Rattle.rrv_model.specs.declared.machine.Version.TheVariants.{One, Two}
use Rattle.rrv_model.specs.declared.machine.GuestEnd.TheVariants.{Exited}
use Rattle.rrv_model.specs.declared.record.Written.{Written}
use Rattle.rrv_model.specs.declared.syscall.Syscall.{Syscall}
use Rattle.rrv_model.specs.declared.syscall.Syscall.TheVariants.{Read, Write, Writev, Exit, ExitGroup, SetTidAddress}
use Rattle.rrv_model.specs.declared.syscall.Syscall.TheVariants.{Futex, SchedYield, Getpid, Gettid, Brk, Munmap}
use Rattle.rrv_model.specs.declared.syscall.Syscall.TheVariants.{Clone, Mmap, Mprotect, Getrandom, ClockGettime}
use Rattle.rrv_model.specs.declared.syscall.Syscall.TheVariants.{Other}
use Rattle.rrv_model.specs.declared.limits.TheConstants.{MAX_PAGES, MAX_TRANSFER}
use Rattle.rrv_model.specs.Memory.{Memory, readable, writable, mapped, unmapped, protected, page_count, all_free}
use Rattle.rrv_model.specs.Memory.{all_mapped, highest_free_up_to, pages_for, page_bytes, bytes_at}
use Rattle.rrv_model.specs.State.{State, thread_at, with_thread, register, with_register, live_threads}
use Rattle.rrv_model.specs.Step.{word_at}

-- ---- rows

-- what a call does: it returns a result, writes, and changes the state otherwise; or the thread goes without a result;
-- or the environment is asked, for up to count bytes, for just count random bytes, or for the time, which are written
-- at an address
pub data Row : Type 0 where
  Returns : (result : ℕ) → List Written → (State → State) → Row
  NoResult : List Written → (State → State) → Row
  AsksInput : (a count : ℕ) → Row
  AsksRandom : (a count : ℕ) → Row
  AsksTime : (a : ℕ) → Row

-- the thread's arguments a0, a1, ..
abbrev pub argument : Thread → ℕ → ℕ
argument t k = register t.regs (10 + k)

-- the thread with a register set
abbrev pub set_register : ℕ → ℕ → Thread → Thread
set_register r value t = record t { regs = with_register r value t.regs }

abbrev pub unchanged : State → State
unchanged s = s

-- the negated errno, with nothing written
abbrev pub fails : ℕ → Row
fails errno = Returns (2 ^ 32 - errno) [] unchanged

abbrev pub only_returns : ℕ → Row
only_returns result = Returns result [] unchanged

-- empty ranges aren't listed
abbrev pub range : ℕ → List ℕ → List Written
range a [] = []
range a (b ∷ bytes) = record { address = a; bytes = b ∷ bytes } ∷ []

-- at most so many bytes go in one call
abbrev pub transfer : ℕ → ℕ
transfer count = min count MAX_TRANSFER

-- ---- input and output

-- read(2): read(fd, buf, len)
abbrev pub read_row : State → Thread → Row
read_row s t =
    let count = transfer (argument t 2) in
    if not (argument t 0 == 0) then fails 9
    else if count == 0 then only_returns 0
    else if not (writable s.memory (argument t 1) count) then fails 14
    else AsksInput (argument t 1) count

abbrev pub is_output : ℕ → Bool
is_output fd = fd == 1 || fd == 2

-- write(2): write(fd, buf, len)
abbrev pub write_row : State → Thread → Row
write_row s t =
    let count = transfer (argument t 2) in
    if not (is_output (argument t 0)) then fails 9
    else if not (readable s.memory (argument t 1) count) then fails 14
    else only_returns count

-- count pairs of base and length from a
unfoldable pub buffers_at : Memory → ℕ → ℕ → List (ℕ × ℕ)
buffers_at m a zero = []
buffers_at m a (suc count) = (word_at m a, word_at m (a + 4)) ∷ buffers_at m (a + 8) count

-- the buffers cut to the first count bytes of them all
unfoldable pub clipped : ℕ → List (ℕ × ℕ) → List (ℕ × ℕ)
clipped count [] = []
clipped count (b ∷ buffers) = (b.0, min b.1 count) ∷ clipped (count - b.1) buffers

unfoldable pub all_readable : Memory → List (ℕ × ℕ) → Bool
all_readable m [] = true
all_readable m (b ∷ buffers) = readable m b.0 b.1 && all_readable m buffers

abbrev pub total_len : List (ℕ × ℕ) → ℕ
total_len buffers = sum_by (λ b. b.1) buffers

-- writev(2): writev(fd, iov, cnt)
abbrev pub writev_row : State → Thread → Row
writev_row s t =
    let count = argument t 2 in
    let buffers = buffers_at s.memory (argument t 1) count in
    if not (is_output (argument t 0)) then fails 9
    else if nat_lt 1024 count then fails 22
    else if not (readable s.memory (argument t 1) (8 * count)) then fails 14
    else if nat_lt (2 ^ 31 - 1) (total_len buffers) then fails 22
    else if not (all_readable s.memory (clipped MAX_TRANSFER buffers)) then fails 14
    else only_returns (transfer (total_len buffers))

-- ---- threads

-- the thread of this tid waits at a
abbrev pub waits_at : State → ℕ → ℕ → Bool
waits_at s a tid = is_at a (thread_at s tid) where
  is_at : ℕ → Option Thread → Bool
  is_at a None = false
  is_at a (Some t) = is_address a t.wait where
    is_address : ℕ → Option FutexWait → Bool
    is_address a None = false
    is_address a (Some w) = a == w.address

-- the first count waiters at a, in order of waiting
abbrev pub waiters : State → ℕ → ℕ → List ℕ
waiters s a count = take count (filter (waits_at s a) s.waiting)

abbrev pub change_thread : ℕ → (Thread → Thread) → State → State
change_thread tid change s = change_found (thread_at s tid) where
  change_found : Option Thread → State
  change_found None = s
  change_found (Some t) = with_thread tid (change t) s

-- the threads with one of them changed, where it is there
abbrev pub changed : ℕ → (Thread → Thread) → FinMap nat_cmp Thread → FinMap nat_cmp Thread
changed tid change m = changed_found (get m tid) where
  changed_found : Option Thread → FinMap nat_cmp Thread
  changed_found None = m
  changed_found (Some t) = insert m tid (change t)

abbrev pub woken : State → ℕ → State
woken s tid =
    change_thread tid (λ t. record t { wait = None })
    (record s { waiting = filter (λ w. not (w == tid)) s.waiting })

-- the first count waiters at a run again
abbrev pub wakes : ℕ → ℕ → State → State
wakes a count s = fold woken s (waiters s a count)

abbrev pub ends : ℕ → State → State
ends status s = record s { ended = Some (Exited (status % 256)) }

-- the thread leaves; the last one ends the guest
abbrev pub leaves : ℕ → ℕ → State → State
leaves tid status s =
    let rest : State = record s { threads = remove s.threads tid } in
    if len rest.threads == 0 then ends status rest else rest

-- the clear address is there, aligned and writable
abbrev pub clears : State → Thread → Bool
clears s t = not (t.clear == 0) && (t.clear % 4 == 0 && writable s.memory t.clear 4)

-- _exit(2), with the clear address of set_tid_address(2): exit(status)
abbrev pub exit_row : ℕ → State → Thread → Row
exit_row tid s t =
    if clears s t
    then NoResult (range t.clear (0 ∷ 0 ∷ 0 ∷ 0 ∷ [])) (λ s. leaves tid (argument t 0) (wakes t.clear 1 s))
    else NoResult [] (leaves tid (argument t 0))

-- exit_group(2): exit_group(status)
abbrev pub exit_group_row : Thread → Row
exit_group_row t = NoResult [] (ends (argument t 0))

-- set_tid_address(2): set_tid_address(a)
abbrev pub set_tid_address_row : ℕ → Thread → Row
set_tid_address_row tid t = Returns tid [] (change_thread tid (λ t'. record t' { clear = argument t 0 }))

-- the thread waits so, last in the waiting order
abbrev pub waits : ℕ → FutexWait → State → State
waits tid w s = change_thread tid (λ t. record t { wait = Some w }) (record s { waiting = s.waiting ++ tid ∷ [] })

-- the timeout that 16 bytes tell: seconds and nanoseconds, 8 bytes each (a struct timespec of 64-bit times)
abbrev pub timeout_in : List ℕ → Timeout
timeout_in bytes = record { seconds = from_le_bytes w64 bytes; nanoseconds = from_le_bytes w64 (drop 8 bytes) }

abbrev pub timeout_at : Memory → ℕ → Timeout
timeout_at m a = timeout_in (bytes_at m a 16)

-- the timeout that stands at an address, or the errno
abbrev pub told_timeout : Memory → ℕ → Result (Option Timeout) ℕ
told_timeout m a =
    if not (readable m a 16) then Err 14
    else if nat_le (2 ^ 63) (timeout_at m a).seconds || nat_le (10 ^ 9) (timeout_at m a).nanoseconds then Err 22
    else Ok (Some (timeout_at m a))

-- the timeout of a wait, whose address is a3, or the errno; 0 is none
abbrev pub asked_timeout : Version → Memory → ℕ → Result (Option Timeout) ℕ
asked_timeout One m a = if a == 0 then Ok None else Err 38
asked_timeout Two m a = if a == 0 then Ok None else told_timeout m a

-- the thread waits at a, if the word there is the one that it expects
abbrev pub wait_row : ℕ → State → Thread → Result (Option Timeout) ℕ → Row
wait_row tid s t (Err errno) = fails errno
wait_row tid s t (Ok timeout) =
    let a = argument t 0 in
    if not (readable s.memory a 4) then fails 14
    else if not (word_at s.memory a == argument t 2) then fails 11
    else Returns 0 [] (waits tid (record { address = a; timeout = timeout }))

-- futex(2): futex(a, op, val, timeout). Bit 128 of op is dropped; then 0 is WAIT and 1 is WAKE
abbrev pub futex_row : ℕ → State → Thread → Row
futex_row tid s t =
    let a = argument t 0 in
    let op = argument t 1 - argument t 1 / 128 % 2 * 128 in
    if nat_lt 1 op then fails 38
    else if not (a % 4 == 0) then fails 22
    else if op == 1 then Returns (length (waiters s a (argument t 2))) [] (wakes a (argument t 2))
    else wait_row tid s t (asked_timeout s.version s.memory (argument t 3))

-- ---- clone(2): clone(flags, stack, ptid, tls, ctid)

-- VM, FS, FILES, SIGHAND, THREAD are required
abbrev pub required_flags : ℕ
required_flags = 0x10F00

-- SYSVSEM, SETTLS, PARENT_SETTID, CHILD_CLEARTID, DETACHED, CHILD_SETTID are allowed
abbrev pub allowed_flags : ℕ
allowed_flags = 0x17C0000

abbrev pub has_flag : ℕ → ℕ → Bool
has_flag flags f = bit_and flags f == f

abbrev pub are_clone_flags : ℕ → Bool
are_clone_flags flags =
    has_flag flags required_flags && bit_and flags (2 ^ 32 - 1 - (required_flags + allowed_flags)) == 0

-- the parent's registers after the ECALL, with a0 0, a stack where there is one, and by the flags a thread pointer and a
-- clear address
abbrev pub child_of : Thread → Thread
child_of t =
    let flags = argument t 0 in
    let zeroed : Thread = set_register 10 0 t in
    let stacked : Thread = if argument t 1 == 0 then zeroed else set_register 2 (argument t 1) zeroed in
    let pointed : Thread = if has_flag flags 0x80000 then set_register 4 (argument t 3) stacked else stacked in
    record pointed { clear = if has_flag flags 0x200000 then argument t 4 else 0 }

-- where the new tid is written: at ptid, then at ctid
abbrev pub tid_places : Thread → List ℕ
tid_places t =
    (if has_flag (argument t 0) 0x100000 then argument t 2 ∷ [] else [])
    ++ (if has_flag (argument t 0) 0x1000000 then argument t 4 ∷ [] else [])

unfoldable pub all_writable : Memory → List ℕ → Bool
all_writable m [] = true
all_writable m (a ∷ places) = writable m a 4 && all_writable m places

abbrev pub clone_row : State → Thread → Row
clone_row s t =
    let tid = s.next_tid in
    if not (are_clone_flags (argument t 0)) then fails 22
    else if nat_le (live_threads s.version) (len s.threads) || nat_lt (2 ^ 31 - 1) tid then fails 11
    else if not (all_writable s.memory (tid_places t)) then fails 14
    else Returns tid (flat_map (λ a. range a (to_le_bytes w32 tid)) (tid_places t))
    (λ s'. with_thread tid (child_of t) (record s' { next_tid = tid + 1 }))

-- ---- memory

-- READ 1, WRITE 2, EXEC 4; a page with W has R
abbrev pub permissions_of : ℕ → Permissions
permissions_of prot =
    record { read = has_flag prot 1 || has_flag prot 2; write = has_flag prot 2; execute = has_flag prot 4 }

-- pages that a guest may have mapped
abbrev pub page_limit : ℕ
page_limit = MAX_PAGES

abbrev pub with_memory : Memory → State → State
with_memory m s = record s { memory = m }

-- brk(2): brk(a). The pages between the two breaks, each rounded up, are mapped or unmapped
abbrev pub brk_row : State → Thread → Row
brk_row s t =
    let a = argument t 0 in
    let from = pages_for s.program_break in
    let to = pages_for a in
    let grown = mapped (from * page_bytes) ((to - from) * page_bytes) (permissions_of 3) s.memory in
    let shrunk = unmapped (to * page_bytes) ((from - to) * page_bytes) s.memory in
    if nat_lt a s.opening_break || nat_lt 0x70000000 a then only_returns s.program_break
    else if nat_le to from then Returns a [] (λ s'. record s' { memory = shrunk; program_break = a })
    else if not (all_free s.memory from (to - from)) || nat_lt page_limit (page_count grown)
    then only_returns s.program_break
    else Returns a [] (λ s'. record s' { memory = grown; program_break = a })

-- munmap(2): munmap(a, len)
abbrev pub munmap_row : State → Thread → Row
munmap_row s t =
    let a = argument t 0 in
    let bytes = pages_for (argument t 1) * page_bytes in
    if not (a % page_bytes == 0) || (argument t 1 == 0 || nat_lt 0x80000000 (a + bytes)) then fails 22
    else Returns 0 [] (λ s'. record s' { memory = unmapped a bytes s'.memory })

-- where mmap maps, if anywhere: at the address for FIXED, else in the highest free range
abbrev pub mmap_place : State → Thread → Option ℕ
mmap_place s t =
    let a = argument t 0 in
    let pages = pages_for (argument t 1) in
    if has_flag (argument t 3) 0x10
    then (if nat_le 0x1000 a && nat_le (a + pages * page_bytes) 0x80000000 then Some (a / page_bytes) else None)
    else highest_free_up_to (0x70000 - pages) s.memory pages

abbrev pub maps_at : State → Thread → Option ℕ → Row
maps_at s t None = fails 12
maps_at s t (Some page) =
    let bytes = pages_for (argument t 1) * page_bytes in
    let new = mapped (page * page_bytes) bytes (permissions_of (argument t 2)) s.memory in
    if nat_lt page_limit (page_count new) then fails 12
    else Returns (page * page_bytes) [] (λ s'. record s' { memory = new })

-- mmap(2): mmap(a, len, prot, flags, ..)
abbrev pub mmap_row : State → Thread → Row
mmap_row s t =
    let flags = argument t 3 in
    if argument t 1 == 0 || (nat_lt 7 (argument t 2) || (not (has_flag flags 2) || (not (has_flag flags 0x20)
    || (has_flag flags 1 || (has_flag flags 0x10 && not (argument t 0 % page_bytes == 0)))))) then fails 22
    else maps_at s t (mmap_place s t)

-- mprotect(2): mprotect(a, len, prot)
abbrev pub mprotect_row : State → Thread → Row
mprotect_row s t =
    let a = argument t 0 in
    let pages = pages_for (argument t 1) in
    if not (a % page_bytes == 0) || nat_lt 7 (argument t 2) then fails 22
    else if not (all_mapped s.memory (a / page_bytes) pages) then fails 12
    else Returns 0 []
    (λ s'. record s' { memory = protected a (pages * page_bytes) (permissions_of (argument t 2)) s'.memory })

-- ---- random bytes and the time

-- getrandom(2): getrandom(buf, len, flags)
abbrev pub getrandom_row : State → Thread → Row
getrandom_row s t =
    let count = min (argument t 1) 256 in
    if nat_lt 7 (argument t 2) then fails 22
    else if count == 0 then only_returns 0
    else if not (writable s.memory (argument t 0) count) then fails 14
    else AsksRandom (argument t 0) count

-- clock_gettime(2): clock_gettime(id, ts)
abbrev pub clock_gettime_row : State → Thread → Row
clock_gettime_row s t =
    if nat_lt 1 (argument t 0) then fails 22
    else if not (writable s.memory (argument t 1) 16) then fails 14
    else AsksTime (argument t 1)

-- ---- the rows by number

-- the call with a number, which is in a7
abbrev pub syscall_of : ℕ → Syscall
syscall_of n =
    if n == 63 then Read else if n == 64 then Write else if n == 66 then Writev
    else if n == 93 then Exit else if n == 94 then ExitGroup else if n == 96 then SetTidAddress
    else if n == 98 then Futex else if n == 422 then Futex else if n == 124 then SchedYield
    else if n == 172 then Getpid else if n == 178 then Gettid else if n == 214 then Brk
    else if n == 215 then Munmap else if n == 220 then Clone else if n == 222 then Mmap
    else if n == 226 then Mprotect else if n == 278 then Getrandom else if n == 403 then ClockGettime
    else Other

-- the name of a call's number (Linux, include/uapi/asm-generic/unistd.h), if a guest may make the call
abbrev pub call_name : ℕ → Option (List ℕ)
call_name n =
    if n == 63 then Some (codes "read") else if n == 64 then Some (codes "write")
    else if n == 66 then Some (codes "writev") else if n == 93 then Some (codes "exit")
    else if n == 94 then Some (codes "exit_group") else if n == 96 then Some (codes "set_tid_address")
    else if n == 98 then Some (codes "futex") else if n == 124 then Some (codes "sched_yield")
    else if n == 172 then Some (codes "getpid") else if n == 178 then Some (codes "gettid")
    else if n == 214 then Some (codes "brk") else if n == 215 then Some (codes "munmap")
    else if n == 220 then Some (codes "clone") else if n == 222 then Some (codes "mmap")
    else if n == 226 then Some (codes "mprotect") else if n == 278 then Some (codes "getrandom")
    else if n == 403 then Some (codes "clock_gettime64") else if n == 422 then Some (codes "futex_time64")
    else None

-- sched_yield(2), getpid(2) and gettid(2) have no row of their own: they only answer
unfoldable pub row_of : Syscall → ℕ → State → Thread → Row
row_of Read tid s t = read_row s t
row_of Write tid s t = write_row s t
row_of Writev tid s t = writev_row s t
row_of Exit tid s t = exit_row tid s t
row_of ExitGroup tid s t = exit_group_row t
row_of SetTidAddress tid s t = set_tid_address_row tid t
row_of Futex tid s t = futex_row tid s t
row_of SchedYield tid s t = only_returns 0
row_of Getpid tid s t = only_returns 1
row_of Gettid tid s t = only_returns tid
row_of Brk tid s t = brk_row s t
row_of Munmap tid s t = munmap_row s t
row_of Clone tid s t = clone_row s t
row_of Mmap tid s t = mmap_row s t
row_of Mprotect tid s t = mprotect_row s t
row_of Getrandom tid s t = getrandom_row s t
row_of ClockGettime tid s t = clock_gettime_row s t
row_of Other tid s t = fails 38
