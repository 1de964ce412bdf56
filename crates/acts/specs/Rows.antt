-- Instructions and calls, each with what it does that others may notice. Words of fences are those of the manual's table (section 2.7).
use Rattle.std.specs.Prelude.{◌≡◌, ℕ, ◌-◌, ◌^◌, Bool, true, false, ◌==◌, List, [], ◌∷◌}
use Rattle.rrv_model.specs.declared.instr.AmoOp.TheVariants.{Swap, Add}
use Rattle.rrv_model.specs.declared.instr.Instr.TheVariants.{Fence, Sc, Amo}
use Rattle.rrv_model.specs.declared.instr.Ordering.{Ordering}
use Rattle.rrv_model.specs.declared.machine.FaultKind.{FaultKind}
use Rattle.rrv_model.specs.declared.machine.Thread.{Thread}
use Rattle.rrv_model.specs.declared.record.CallRecord.{CallRecord}
use Rattle.rrv_model.specs.declared.record.End.TheVariants.{Fault}
use Rattle.rrv_model.specs.declared.syscall.Syscall.TheVariants.{Write, Exit, Clone, Munmap, Mmap}
use Rattle.rrv_model.specs.Instructions.{acquires, releases}
use Rattle.rrv_model.specs.State.{State, register}
use Rattle.rrv_model.specs.Step.{Hart, amo_value, is_reserved, word_at}
use Rattle.order.specs.declared.act.Deed.{Deed}
use Rattle.order.specs.declared.act.Deed.TheVariants.{Changes, Fences, Leaves}
use Rattle.acts.specs.Deeds.{DoesIn, call_deeds, deeds_of, is_full}

-- ---- instructions

-- a fence of this word is an acquire fence, is a release fence
abbrev pub IsFence : (w : ℕ) → (is_acquire is_release : Bool) → Type 0
IsFence w is_acquire is_release = (h : Hart) → deeds_of w Fence h ≡ Fences is_acquire is_release ∷ []

-- rw,rw; iorw,iorw; tso; r,rw; ir,iorw; rw,w; iorw,ow; and those that are neither: w,w; r,r; r,w; w,rw
abbrev pub RowsOfFences : Type 0
RowsOfFences =
    IsFence 0x0330000f true true × IsFence 0x0ff0000f true true × IsFence 0x8330000f true true
    × IsFence 0x0230000f true false × IsFence 0x0af0000f true false
    × IsFence 0x0310000f false true × IsFence 0x0f50000f false true
    × IsFence 0x0110000f false false × IsFence 0x0220000f false false × IsFence 0x0210000f false false × IsFence 0x0130000f false false

-- an SC that fails does nothing
abbrev pub RowOfFailedStores : Type 0
RowOfFailedStores =
    (w rd rs1 rs2 : ℕ) (ordering : Ordering) (h : Hart) → is_reserved h.reservation (register h.regs rs1) ≡ false
    → deeds_of w (Sc ordering rd rs1 rs2) h ≡ []

-- an AMO changes its word, as its bits say
abbrev pub AmoReads : (reads : Bool) (value old : ℕ) (ordering : Ordering) (a : ℕ) → List Deed
AmoReads reads value old ordering a =
    Changes (record {
      at = a;
      before = old;
      after = value;
      reads = reads;
      acquires = acquires ordering;
      releases = releases ordering;
      full = is_full ordering;
    }) ∷ []

-- a swap into x0 reads nothing; into another register it reads, and so does any other AMO
abbrev pub RowsOfSwaps : Type 0
RowsOfSwaps =
    (w rs1 rs2 : ℕ) (ordering : Ordering) (h : Hart)
    → (deeds_of w (Amo Swap ordering 0 rs1 rs2) h
    ≡ AmoReads false (register h.regs rs2) (word_at h.memory (register h.regs rs1)) ordering (register h.regs rs1))
    × (deeds_of w (Amo Swap ordering 5 rs1 rs2) h
    ≡ AmoReads true (register h.regs rs2) (word_at h.memory (register h.regs rs1)) ordering (register h.regs rs1))
    × (deeds_of w (Amo Add ordering 0 rs1 rs2) h
    ≡ AmoReads true (amo_value Add (word_at h.memory (register h.regs rs1)) (register h.regs rs2))
    (word_at h.memory (register h.regs rs1)) ordering (register h.regs rs1))

-- ---- calls

-- its result is the negated errno
abbrev pub HasErrno : ℕ → CallRecord → Type 0
HasErrno errno r = r.result ≡ 2 ^ 32 - errno

-- calls that were refused do nothing: EBADF of write, ENOMEM of mmap, EINVAL of munmap, and whatever a clone has that made no thread
abbrev pub RowsOfRefusedCalls : Type 0
RowsOfRefusedCalls =
    (s : State) (t : Thread) (r : CallRecord)
    → (HasErrno 9 r → call_deeds Write s t r ≡ [])
    × (HasErrno 12 r → call_deeds Mmap s t r ≡ [])
    × (HasErrno 22 r → call_deeds Munmap s t r ≡ [])
    × ((r.result == s.next_tid) ≡ false → call_deeds Clone s t r ≡ [])

-- a thread without a clear address clears nothing
abbrev pub RowOfExits : Type 0
RowOfExits = (s : State) (t : Thread) (r : CallRecord) → t.clear ≡ 0 → call_deeds Exit s t r ≡ Leaves ∷ []

-- a fault does nothing
abbrev pub RowOfFaults : Type 0
RowOfFaults = (kind : FaultKind) (s : State) (t : Thread) (done : List Deed) → DoesIn true (Fault kind) s t done → done ≡ []
