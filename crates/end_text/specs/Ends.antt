-- The printed lines of how a guest ended, and of a place. Each ends with a newline.
use Rattle.std.specs.Prelude.{ℕ, ◌-◌, ◌%◌, ◌==◌, if◌then◌else◌, List, [], ◌++◌, flat_map, codes, Option, Some, None}
use Rattle.std.specs.Fmt.{decimal}
use Rattle.std.specs.FinMap.{entries}
use Rattle.rrv_model.specs.declared.instr.Instr.{Instr}
use Rattle.rrv_model.specs.declared.instr.Instr.TheVariants.{Jal, Jalr, Branch, Load, Store, Lr, Sc, Amo}
use Rattle.rrv_model.specs.declared.machine.FaultKind.{FaultKind}
use Rattle.rrv_model.specs.declared.machine.FaultKind.TheVariants as faults
use Rattle.rrv_model.specs.declared.machine.GuestEnd.{GuestEnd}
use Rattle.rrv_model.specs.declared.machine.GuestEnd.TheVariants as guest_ends
use Rattle.rrv_model.specs.declared.machine.Regs.{Regs}
use Rattle.rrv_model.specs.declared.machine.FutexWait.{FutexWait}
use Rattle.rrv_model.specs.declared.machine.Thread.{Thread}
use Rattle.rrv_model.specs.Memory.{Memory}
use Rattle.rrv_model.specs.State.{State, register, thread_at}
use Rattle.rrv_model.specs.Step.{word_at}
use Rattle.rrv_model.specs.WordReader.{read}
use Rattle.rrv_model.specs.Words.{plus}
use Rattle.guest_pages.specs.Space.{present}
use Rattle.trace_text.specs.Lines.{fault_name, word_text}
use Rattle.trace_text.specs.States.{newline}

-- ---- the instruction that faulted

-- the word at an address, its low byte first, if its four bytes are mapped
abbrev pub mapped_word : Memory → ℕ → Option ℕ
mapped_word m a = if present m a 4 then Some (word_at m a) else None

-- the instruction that a word stands for
abbrev pub instruction_of : Option ℕ → Option Instr
instruction_of None = None
instruction_of (Some w) = read w

-- the address that an instruction loads from or stores to
unfoldable pub accessed : Regs → Option Instr → Option ℕ
accessed regs (Some (Load kind rd rs1 immediate)) = Some (plus (register regs rs1) immediate)
accessed regs (Some (Store kind rs1 rs2 immediate)) = Some (plus (register regs rs1) immediate)
accessed regs (Some (Lr ordering rd rs1)) = Some (register regs rs1)
accessed regs (Some (Sc ordering rd rs1 rs2)) = Some (register regs rs1)
accessed regs (Some (Amo op ordering rd rs1 rs2)) = Some (register regs rs1)
accessed regs _ = None

-- the address that an instruction jumps or branches to
unfoldable pub target : Regs → Option Instr → Option ℕ
target regs (Some (Jal rd offset)) = Some (plus regs.pc offset)
target regs (Some (Jalr rd rs1 immediate)) = let a = plus (register regs rs1) immediate in Some (a - a % 2)
target regs (Some (Branch test rs1 rs2 offset)) = Some (plus regs.pc offset)
target regs _ = None

-- the address that a fault of this kind is at, with these registers at this instruction
abbrev pub fault_address : FaultKind → Regs → Option Instr → Option ℕ
fault_address faults.BadInstruction regs i = None
fault_address faults.Breakpoint regs i = None
fault_address faults.MisalignedTarget regs i = if regs.pc % 4 == 0 then target regs i else Some regs.pc
fault_address faults.MisalignedAtomic regs i = accessed regs i
fault_address faults.Fetch regs i = Some regs.pc
fault_address faults.Load regs i = accessed regs i
fault_address faults.Store regs i = accessed regs i

-- ---- a fault

abbrev pub instruction_text : Option ℕ → List ℕ
instruction_text None = codes " word none"
instruction_text (Some w) = codes " word " ++ word_text w

-- nothing where there is no address
abbrev pub address_text : Option ℕ → List ℕ
address_text None = []
address_text (Some a) = codes " address " ++ word_text a

-- a thread's tid and the address of its next instruction
unfoldable pub place_text : ℕ → ℕ → List ℕ
place_text tid pc = codes " thread " ++ (decimal tid ++ (codes " pc " ++ word_text pc))

-- the word of an instruction, and the address of its fault
unfoldable pub cause_text : FaultKind → Regs → Option ℕ → List ℕ
cause_text kind regs word = instruction_text word ++ address_text (fault_address kind regs (instruction_of word))

-- of the thread whose instruction faulted, nothing if it isn't there
abbrev pub faulting_text : FaultKind → ℕ → Option Thread → Memory → List ℕ
faulting_text kind tid None m = []
faulting_text kind tid (Some t) m = place_text tid t.regs.pc ++ cause_text kind t.regs (mapped_word m t.regs.pc)

abbrev pub fault_line : FaultKind → (place last : ℕ) → State → List ℕ
fault_line kind place last s =
    codes "fault " ++ (fault_name kind ++ (codes " at " ++ (decimal place
    ++ (faulting_text kind last (thread_at s last) s.memory ++ newline))))

-- ---- a place

-- the address of a thread's next instruction, and that one's word; nothing if the thread isn't there
abbrev pub next_text : ℕ → Option Thread → Memory → List ℕ
next_text tid None m = []
next_text tid (Some t) m = place_text tid t.regs.pc ++ instruction_text (mapped_word m t.regs.pc)

-- a place, of so many, and what the thread of this tid comes to from there
abbrev pub where_line : (place total tid : ℕ) → State → List ℕ
where_line place total tid s =
    codes "at " ++ (decimal place ++ (codes " of " ++ (decimal total
    ++ (next_text tid (thread_at s tid) s.memory ++ newline))))

-- ---- the other ends

-- nothing where no thread ran
abbrev pub last_text : ℕ → List ℕ
last_text tid = if tid == 0 then [] else codes " thread " ++ decimal tid

abbrev pub exit_line : (place last : ℕ) → List ℕ
exit_line place last = codes "exit at " ++ (decimal place ++ (last_text last ++ newline))

-- where a thread waits, nothing if it runs
abbrev pub wait_line : ℕ → Option FutexWait → List ℕ
wait_line tid None = []
wait_line tid (Some w) =
    codes "thread " ++ (decimal tid ++ (codes " waits at " ++ (word_text w.address ++ newline)))

-- ---- any end

-- where a frame of no thread ended the guest, each thread that waits
abbrev pub lines_of : Option GuestEnd → (place last : ℕ) → State → List ℕ
lines_of None place last s = []
lines_of (Some (guest_ends.Exited status)) place last s = exit_line place last
lines_of (Some (guest_ends.Faulted kind)) place last s = fault_line kind place last s
lines_of (Some _) place last s = flat_map (λ e. wait_line e.0 e.1.wait) (entries s.threads)

-- of a state behind so many instructions, where the thread of this tid ran last
abbrev pub end_lines : (place last : ℕ) → State → List ℕ
end_lines place last s = lines_of s.ended place last s
