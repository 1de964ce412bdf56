-- What the address of a fault tells.
use Rattle.std.specs.Prelude.{◌≡◌, ℕ, ◌+◌, ◌<◌, ◌%◌, ◌==◌, Bool, false, Option, Some, None, IsSomeAnd}
use Rattle.rrv_model.specs.declared.instr.Instr.{Instr}
use Rattle.rrv_model.specs.declared.instr.Instr.TheVariants.{Load, Store}
use Rattle.rrv_model.specs.declared.machine.FaultKind.{FaultKind}
use Rattle.rrv_model.specs.declared.machine.FaultKind.TheVariants as faults
use Rattle.rrv_model.specs.declared.machine.Regs.{Regs}
use Rattle.rrv_model.specs.FrameStep.{EndsInFault}
use Rattle.rrv_model.specs.Memory.{Memory, Cell, can_read, can_write, can_execute}
use Rattle.rrv_model.specs.State.{State, thread_at}
use Rattle.rrv_model.specs.Step.{load_len, store_len}
use Rattle.end_text.specs.Ends.{fault_address, instruction_of, mapped_word}

-- how many bytes an instruction loads or stores, if it does
abbrev pub access_len : Option Instr → ℕ
access_len (Some (Load kind rd rs1 immediate)) = load_len kind
access_len (Some (Store kind rs1 rs2 immediate)) = store_len kind
access_len _ = 4

-- one of count bytes from a fails the test
abbrev pub HasRefused : (Option Cell → Bool) → Memory → (a count : ℕ) → Type 0
HasRefused test m a count = (k : ℕ) × (k < count) × (test (m (a + k)) ≡ false)

abbrev pub IsMisaligned : ℕ → Type 0
IsMisaligned a = (a % 4 == 0) ≡ false

-- a fault of this kind, of an instruction that takes so many bytes, is at this address
abbrev pub IsFaultAt : FaultKind → Memory → ℕ → Option ℕ → Type 0
IsFaultAt faults.BadInstruction m count o = o ≡ None
IsFaultAt faults.Breakpoint m count o = o ≡ None
IsFaultAt faults.MisalignedTarget m count o = IsSomeAnd o IsMisaligned
IsFaultAt faults.MisalignedAtomic m count o = IsSomeAnd o IsMisaligned
IsFaultAt faults.Fetch m count o = IsSomeAnd o (λ a. HasRefused can_execute m a 4)
IsFaultAt faults.Load m count o = IsSomeAnd o (λ a. HasRefused can_read m a count)
IsFaultAt faults.Store m count o = IsSomeAnd o (λ a. HasRefused can_write m a count)

-- so is the fault of a thread with these registers, of the instruction that stands at its pc
abbrev pub IsToldOf : FaultKind → Memory → Regs → Type 0
IsToldOf kind m regs =
    let i = instruction_of (mapped_word m regs.pc) in IsFaultAt kind m (access_len i) (fault_address kind regs i)

-- where a slice ends in a fault, its thread is there behind it, and the address that is told of it is that of the fault
abbrev pub FaultsAreTold : Type 0
FaultsAreTold =
    (old new : State) (tid count : ℕ) (kind : FaultKind) → EndsInFault old tid count kind new →
    IsSomeAnd (thread_at new tid) (λ t. IsToldOf kind new.memory t.regs)
