-- What an instruction or a call does that other threads may notice (RISC-V Unprivileged ISA 20191213, chapters 2 and 8; Linux man pages,
-- section 2).
use Rattle.std.specs.Prelude.{◌≡◌, ℕ, ◌-◌, ◌*◌, ◌/◌, ◌%◌, Bool, true, not, ◌&&◌, ◌==◌, nat_le, nat_lt, if◌then◌else◌, List, [], ◌∷◌, ◌++◌, length, map, Option, Some, Result, Ok}
use Rattle.rrv_model.specs.declared.instr.AmoOp.{AmoOp}
use Rattle.rrv_model.specs.declared.instr.AmoOp.TheVariants as amos
use Rattle.rrv_model.specs.declared.instr.Instr.{Instr}
use Rattle.rrv_model.specs.declared.instr.Instr.TheVariants as instrs
use Rattle.rrv_model.specs.declared.instr.Ordering.{Ordering}
use Rattle.rrv_model.specs.declared.limits.TheConstants.{MAX_TRANSFER}
use Rattle.rrv_model.specs.declared.machine.Thread.{Thread}
use Rattle.rrv_model.specs.declared.machine.Timeout.{Timeout}
use Rattle.rrv_model.specs.declared.record.CallRecord.{CallRecord}
use Rattle.rrv_model.specs.declared.record.End.{End}
use Rattle.rrv_model.specs.declared.record.End.TheVariants as record_ends
use Rattle.rrv_model.specs.declared.syscall.Syscall.{Syscall}
use Rattle.rrv_model.specs.declared.syscall.Syscall.TheVariants as calls
use Rattle.rrv_model.specs.Words.{field, plus}
use Rattle.rrv_model.specs.Instructions.{Stands, acquires, releases}
use Rattle.rrv_model.specs.Memory.{page_bytes, pages_for}
use Rattle.rrv_model.specs.State.{State, register}
use Rattle.rrv_model.specs.Step.{Hart, amo_value, fetched, hart_of, is_reserved, load_len, store_len, word_at}
use Rattle.rrv_model.specs.CallRows.{argument, asked_timeout, buffers_at, clears, clipped, syscall_of, tid_places, waiters}
use Rattle.order.specs.declared.act.Deed.{Deed}
use Rattle.order.specs.declared.act.Deed.TheVariants as deeds

-- ---- instructions

-- FENCE: bits 27 to 24 are device input, device output, reads and writes before it, 23 to 20 those after it (section 2.7). An acquire
-- fence has reads before it, and reads and writes after it (table A.6)
abbrev pub is_acquire_fence : ℕ → Bool
is_acquire_fence w = field w 25 1 == 1 && field w 20 2 == 3

-- a release fence has reads and writes before it, and writes after it
abbrev pub is_release_fence : ℕ → Bool
is_release_fence w = field w 24 2 == 3 && field w 20 1 == 1

abbrev pub is_swap : AmoOp → Bool
is_swap amos.Swap = true
is_swap _ = Bool.false

-- with both bits
abbrev pub is_full : Ordering → Bool
is_full ordering = acquires ordering && releases ordering

-- what an instruction does, whose word is w, if it doesn't fault. An SC that stores releases, with rl or without: compilers leave the
-- release out of a compare-and-swap that isn't sequentially consistent. A swap into x0 reads nothing: compilers store so.
abbrev pub deeds_of : ℕ → Instr → Hart → List Deed
deeds_of w (instrs.Load kind rd rs1 immediate) h =
    deeds.Reads (plus (register h.regs rs1) immediate) (load_len kind) ∷ []
deeds_of w (instrs.Store kind rs1 rs2 immediate) h =
    deeds.Writes (plus (register h.regs rs1) immediate) (store_len kind) ∷ []
deeds_of w instrs.Fence h = deeds.Fences (is_acquire_fence w) (is_release_fence w) ∷ []
deeds_of w (instrs.Lr ordering rd rs1) h =
    deeds.Reserves (register h.regs rs1) (acquires ordering) (releases ordering) ∷ []
deeds_of w (instrs.Sc ordering rd rs1 rs2) h =
    let a = register h.regs rs1 in
    if is_reserved h.reservation a
    then deeds.Changes (record {
      at = a;
      before = word_at h.memory a;
      after = register h.regs rs2;
      reads = true;
      acquires = acquires ordering;
      releases = true;
      full = is_full ordering;
    }) ∷ []
    else []
deeds_of w (instrs.Amo op ordering rd rs1 rs2) h =
    let a = register h.regs rs1 in
    deeds.Changes (record {
      at = a;
      before = word_at h.memory a;
      after = amo_value op (word_at h.memory a) (register h.regs rs2);
      reads = not (is_swap op && rd == 0);
      acquires = acquires ordering;
      releases = releases ordering;
      full = is_full ordering;
    }) ∷ []
deeds_of w _ h = []

-- the thread's next instruction does this
pub record Does (s : State) (t : Thread) (done : List Deed) : Type 0 where
  pub word : ℕ
  pub instr : Instr
  pub fetches : fetched s.memory t.regs.pc ≡ Ok word
  pub stands : Stands word instr
  pub done_is : done ≡ deeds_of word instr (hart_of s t)

-- ---- calls

-- a call that moved bytes, and didn't fail
abbrev pub if_moved : ℕ → List Deed → List Deed
if_moved count done = if nat_le 1 count && nat_le count MAX_TRANSFER then done else []

-- futex(2): bit 128 of the operation is dropped, and then 0 is WAIT and 1 is WAKE
abbrev pub futex_op : Thread → ℕ
futex_op t = argument t 1 - argument t 1 / 128 % 2 * 128

abbrev pub read_timeout : Result (Option Timeout) ℕ → ℕ → List Deed
read_timeout (Ok (Some timeout)) a = deeds.Reads a 16 ∷ []
read_timeout _ a = []

abbrev pub futex_deeds : State → Thread → List Deed
futex_deeds s t =
    if not (argument t 0 % 4 == 0) then []
    else if futex_op t == 1 then map deeds.Wakes (waiters s (argument t 0) (argument t 2))
    else if futex_op t == 0 then read_timeout (asked_timeout s.version s.memory (argument t 3)) (argument t 3)
    else []

-- the pages between two breaks, each rounded up
abbrev pub renewed_between : (from to : ℕ) → List Deed
renewed_between from to =
    if nat_lt from to then deeds.Renews (from * page_bytes) ((to - from) * page_bytes) ∷ []
    else if nat_lt to from then deeds.Renews (to * page_bytes) ((from - to) * page_bytes) ∷ []
    else []

abbrev pub exit_deeds : State → Thread → List Deed
exit_deeds s t =
    (if clears s t then deeds.ClearsTid t.clear ∷ map deeds.Wakes (waiters s t.clear 1) else []) ++ deeds.Leaves ∷ []

abbrev pub clone_deeds : State → Thread → ℕ → List Deed
clone_deeds s t result =
    if result == s.next_tid then map deeds.SetsTid (tid_places t) ++ deeds.Starts result ∷ [] else []

-- what a call did in a state, with its record. The rest are read, getrandom and clock_gettime, whose ranges their record has, and calls
-- that write none
abbrev pub call_deeds : Syscall → State → Thread → CallRecord → List Deed
call_deeds calls.Write s t r = if_moved r.result (deeds.Reads (argument t 1) r.result ∷ [])
call_deeds calls.Writev s t r =
    if_moved r.result (deeds.Reads (argument t 1) (8 * argument t 2)
    ∷ map (λ b. deeds.Reads b.0 b.1) (clipped r.result (buffers_at s.memory (argument t 1) (argument t 2))))
call_deeds calls.Exit s t r = exit_deeds s t
call_deeds calls.Futex s t r = futex_deeds s t
call_deeds calls.Clone s t r = clone_deeds s t r.result
call_deeds calls.Brk s t r =
    if r.result == argument t 0 then renewed_between (pages_for s.program_break) (pages_for r.result) else []
call_deeds calls.Munmap s t r =
    if r.result == 0 then deeds.Renews (argument t 0) (pages_for (argument t 1) * page_bytes) ∷ [] else []
call_deeds calls.Mmap s t r =
    if r.result % page_bytes == 0 then deeds.Renews r.result (pages_for (argument t 1) * page_bytes) ∷ [] else []
call_deeds _ s t r = map (λ w. deeds.Writes w.address (length w.bytes)) r.written

-- ---- one instruction of a frame

-- the last one does what the frame's end says; a fault does nothing
abbrev pub DoesIn : (is_last : Bool) → End → State → Thread → List Deed → Type 0
DoesIn true (record_ends.Call r) s t done = done ≡ call_deeds (syscall_of (register t.regs 17)) s t r
DoesIn true (record_ends.Fault kind) s t done = done ≡ []
DoesIn _ end s t done = Does s t done
