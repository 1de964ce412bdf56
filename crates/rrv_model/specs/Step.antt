-- Step: what one instruction does, a row an instruction and a row a kind of fault
-- (RISC-V Unprivileged ISA 20191213, chapters 2, 3, 7 and 8).
use Rattle.std.specs.Prelude.{◌≡◌, ℕ, ◌-◌, ◌*◌, ◌/◌, ◌%◌, ◌^◌, Bool, not, ◌==◌, nat_lt, int_lt, int_div, int_rem, ◌*ℤ◌, ℤ, pos, bit_and, bit_or, bit_xor, if◌then◌else◌, Option, Some, None, Result, Ok, Err}
use Rattle.std.specs.Int.{w8, w16, w32, w64, from_le_bytes, to_le_bytes, int_shr, cast_unsigned}
use Rattle.rrv_model.specs.declared.instr.BranchTest.{BranchTest}
use Rattle.rrv_model.specs.declared.instr.BranchTest.TheVariants.{Beq, Bne, Blt, Bge, Bltu, Bgeu}
use Rattle.rrv_model.specs.declared.instr.LoadKind.{LoadKind}
use Rattle.rrv_model.specs.declared.instr.LoadKind.TheVariants.{Lb, Lh, Lw, Lbu, Lhu}
use Rattle.rrv_model.specs.declared.instr.StoreKind.{StoreKind}
use Rattle.rrv_model.specs.declared.instr.StoreKind.TheVariants.{Sb, Sh, Sw}
use Rattle.rrv_model.specs.declared.instr.ImmediateOp.{ImmediateOp}
use Rattle.rrv_model.specs.declared.instr.ImmediateOp.TheVariants.{Addi, Slti, Sltiu, Xori, Ori, Andi}
use Rattle.rrv_model.specs.declared.instr.ShiftOp.{ShiftOp}
use Rattle.rrv_model.specs.declared.instr.ShiftOp.TheVariants.{Slli, Srli, Srai}
use Rattle.rrv_model.specs.declared.instr.RegisterOp.{RegisterOp}
use Rattle.rrv_model.specs.declared.instr.RegisterOp.TheVariants as ops
use Rattle.rrv_model.specs.declared.instr.AmoOp.{AmoOp}
use Rattle.rrv_model.specs.declared.instr.AmoOp.TheVariants as amos
use Rattle.rrv_model.specs.declared.instr.Instr.{Instr}
use Rattle.rrv_model.specs.declared.instr.Instr.TheVariants.{Lui, Auipc, Jal, Jalr, Branch, Load, Store, OpImm, Shift, Op, Fence, FenceI, Ecall, Ebreak, Lr, Sc, Amo}
use Rattle.rrv_model.specs.declared.machine.FaultKind.{FaultKind}
use Rattle.rrv_model.specs.declared.machine.FaultKind.TheVariants as faults
use Rattle.rrv_model.specs.declared.machine.Regs.{Regs}
use Rattle.rrv_model.specs.declared.machine.Thread.{Thread}
use Rattle.rrv_model.specs.Words.{wrap, plus, minus, times, signed, word_of, sign_extend, flag}
use Rattle.rrv_model.specs.Instructions.{Decodes, Stands}
use Rattle.rrv_model.specs.Memory.{Memory, readable, writable, executable, bytes_at, stored}
use Rattle.rrv_model.specs.State.{State, thread_at, with_thread, register, with_register}

-- what an instruction of a thread reads and changes
pub record Hart : Type 0 where
  pub regs : Regs
  pub memory : Memory
  -- the address of the reservation
  pub reservation : Option ℕ

-- the hart after, or that of a call, whose `pc` is past the ECALL, or a fault, which leaves the hart as it was
pub data Outcome : Type 0 where
  Next : Hart → Outcome
  Called : Hart → Outcome
  Faulted : FaultKind → Outcome

-- ---- values (sections 2.4, 7.1, 7.2 and 8.4)

abbrev pub branches : BranchTest → ℕ → ℕ → Bool
branches Beq x y = x == y
branches Bne x y = not (x == y)
branches Blt x y = int_lt (signed x) (signed y)
branches Bge x y = not (int_lt (signed x) (signed y))
branches Bltu x y = nat_lt x y
branches Bgeu x y = not (nat_lt x y)

abbrev pub load_len : LoadKind → ℕ
load_len Lb = 1
load_len Lh = 2
load_len Lw = 4
load_len Lbu = 1
load_len Lhu = 2

abbrev pub loaded : LoadKind → Memory → ℕ → ℕ
loaded Lb m a = sign_extend 8 (from_le_bytes w8 (bytes_at m a 1))
loaded Lh m a = sign_extend 16 (from_le_bytes w16 (bytes_at m a 2))
loaded Lw m a = from_le_bytes w32 (bytes_at m a 4)
loaded Lbu m a = from_le_bytes w8 (bytes_at m a 1)
loaded Lhu m a = from_le_bytes w16 (bytes_at m a 2)

abbrev pub word_at : Memory → ℕ → ℕ
word_at m a = from_le_bytes w32 (bytes_at m a 4)

abbrev pub store_len : StoreKind → ℕ
store_len Sb = 1
store_len Sh = 2
store_len Sw = 4

-- the low bytes of a word are stored
abbrev pub stores : StoreKind → ℕ → ℕ → Memory → Memory
stores Sb a value = stored a (to_le_bytes w8 value)
stores Sh a value = stored a (to_le_bytes w16 value)
stores Sw a value = stored a (to_le_bytes w32 value)

-- shifts use the low five bits of the amount
abbrev pub shifted_left : ℕ → ℕ → ℕ
shifted_left x amount = wrap (x * 2 ^ (amount % 32))

abbrev pub shifted_right : ℕ → ℕ → ℕ
shifted_right x amount = x / 2 ^ (amount % 32)

-- the sign is copied
abbrev pub shifted_right_signed : ℕ → ℕ → ℕ
shifted_right_signed x amount = word_of (int_shr (signed x) (amount % 32))

-- the upper word of a signed product, which has 64 bits
abbrev pub upper_word : ℤ → ℕ
upper_word product = cast_unsigned w64 product / 2 ^ 32

-- division rounds toward zero, and the remainder has the dividend's sign; -2 ^ 31 / -1 wraps to -2 ^ 31, with
-- remainder 0
abbrev pub quotient : ℕ → ℕ → ℕ
quotient x y = if y == 0 then 2 ^ 32 - 1 else word_of (int_div (signed x) (signed y))

abbrev pub remainder : ℕ → ℕ → ℕ
remainder x y = if y == 0 then x else word_of (int_rem (signed x) (signed y))

abbrev pub quotient_unsigned : ℕ → ℕ → ℕ
quotient_unsigned x y = if y == 0 then 2 ^ 32 - 1 else x / y

abbrev pub remainder_unsigned : ℕ → ℕ → ℕ
remainder_unsigned x y = if y == 0 then x else x % y

abbrev pub op_value : RegisterOp → ℕ → ℕ → ℕ
op_value ops.Add x y = plus x y
op_value ops.Sub x y = minus x y
op_value ops.Sll x y = shifted_left x y
op_value ops.Slt x y = flag (int_lt (signed x) (signed y))
op_value ops.Sltu x y = flag (nat_lt x y)
op_value ops.Xor x y = bit_xor x y
op_value ops.Srl x y = shifted_right x y
op_value ops.Sra x y = shifted_right_signed x y
op_value ops.Or x y = bit_or x y
op_value ops.And x y = bit_and x y
op_value ops.Mul x y = times x y
op_value ops.Mulh x y = upper_word (signed x *ℤ signed y)
op_value ops.Mulhsu x y = upper_word (signed x *ℤ pos y)
op_value ops.Mulhu x y = x * y / 2 ^ 32
op_value ops.Div x y = quotient x y
op_value ops.Divu x y = quotient_unsigned x y
op_value ops.Rem x y = remainder x y
op_value ops.Remu x y = remainder_unsigned x y

-- as the operation of two registers, with the immediate as the second
abbrev pub immediate_value : ImmediateOp → ℕ → ℕ → ℕ
immediate_value Addi x y = plus x y
immediate_value Slti x y = flag (int_lt (signed x) (signed y))
immediate_value Sltiu x y = flag (nat_lt x y)
immediate_value Xori x y = bit_xor x y
immediate_value Ori x y = bit_or x y
immediate_value Andi x y = bit_and x y

abbrev pub shift_value : ShiftOp → ℕ → ℕ → ℕ
shift_value Slli x amount = shifted_left x amount
shift_value Srli x amount = shifted_right x amount
shift_value Srai x amount = shifted_right_signed x amount

-- what an atomic stores, of the old word and the register's
abbrev pub amo_value : AmoOp → ℕ → ℕ → ℕ
amo_value amos.Swap old x = x
amo_value amos.Add old x = plus old x
amo_value amos.Xor old x = bit_xor old x
amo_value amos.And old x = bit_and old x
amo_value amos.Or old x = bit_or old x
amo_value amos.Min old x = if int_lt (signed x) (signed old) then x else old
amo_value amos.Max old x = if int_lt (signed old) (signed x) then x else old
amo_value amos.Minu old x = if nat_lt x old then x else old
amo_value amos.Maxu old x = if nat_lt old x then x else old

-- ---- what an instruction leaves

-- the registers are as told, and the thread goes on behind the instruction
abbrev pub goes_on : Regs → Hart → Hart
goes_on regs h = record h { regs = record regs { pc = plus regs.pc 4 } }

-- a register gets a value
abbrev pub sets : ℕ → ℕ → Hart → Outcome
sets rd value h = Next (goes_on (with_register rd value h.regs) h)

-- a jump, which leaves the place behind it in a register (section 2.5)
abbrev pub jumps : ℕ → ℕ → Hart → Outcome
jumps rd target h =
    if target % 4 == 0
    then Next (record h { regs = record (with_register rd (plus h.regs.pc 4) h.regs) { pc = target } })
    else Faulted faults.MisalignedTarget

-- an atomic at an address: a misaligned one is refused as such before its bytes are looked at (sections 8.2 and 8.4)
abbrev pub atomic : Bool → FaultKind → ℕ → Outcome → Outcome
atomic allowed kind a outcome =
    if a % 4 == 0 then (if allowed then outcome else Faulted kind) else Faulted faults.MisalignedAtomic

abbrev pub is_reserved : Option ℕ → ℕ → Bool
is_reserved None a = Bool.false
is_reserved (Some b) a = a == b

-- ---- the rows; None is a word that is no instruction
unfoldable pub executed : Option Instr → Hart → Outcome
executed None h = Faulted faults.BadInstruction
executed (Some (Lui rd immediate)) h = sets rd immediate h
executed (Some (Auipc rd immediate)) h = sets rd (plus h.regs.pc immediate) h
executed (Some (Jal rd offset)) h = jumps rd (plus h.regs.pc offset) h
executed (Some (Jalr rd rs1 immediate)) h =
    let target = plus (register h.regs rs1) immediate in jumps rd (target - target % 2) h
executed (Some (Branch test rs1 rs2 offset)) h =
    if branches test (register h.regs rs1) (register h.regs rs2)
    then jumps 0 (plus h.regs.pc offset) h
    else Next (goes_on h.regs h)
executed (Some (Load kind rd rs1 immediate)) h =
    let a = plus (register h.regs rs1) immediate in
    if readable h.memory a (load_len kind) then sets rd (loaded kind h.memory a) h else Faulted faults.Load
executed (Some (Store kind rs1 rs2 immediate)) h =
    let a = plus (register h.regs rs1) immediate in
    if writable h.memory a (store_len kind)
    then Next (goes_on h.regs (record h { memory = stores kind a (register h.regs rs2) h.memory }))
    else Faulted faults.Store
executed (Some (OpImm op rd rs1 immediate)) h = sets rd (immediate_value op (register h.regs rs1) immediate) h
executed (Some (Shift op rd rs1 amount)) h = sets rd (shift_value op (register h.regs rs1) amount) h
executed (Some (Op op rd rs1 rs2)) h = sets rd (op_value op (register h.regs rs1) (register h.regs rs2)) h
executed (Some Fence) h = Next (goes_on h.regs h)
executed (Some FenceI) h = Next (goes_on h.regs h)
executed (Some Ecall) h = Called (goes_on h.regs h)
executed (Some Ebreak) h = Faulted faults.Breakpoint
executed (Some (Lr ordering rd rs1)) h =
    let a = register h.regs rs1 in
    atomic (readable h.memory a 4) faults.Load a (sets rd (word_at h.memory a) (record h { reservation = Some a }))
executed (Some (Sc ordering rd rs1 rs2)) h =
    let a = register h.regs rs1 in
    let after : Hart = record h { reservation = None } in
    atomic (writable h.memory a 4) faults.Store a (
    if is_reserved h.reservation a
    then sets rd 0 (record after { memory = stores Sw a (register h.regs rs2) h.memory })
    else sets rd 1 after)
executed (Some (Amo op ordering rd rs1 rs2)) h =
    let a = register h.regs rs1 in
    let old = word_at h.memory a in
    atomic (writable h.memory a 4) faults.Store a
    (sets rd old (record h { memory = stores Sw a (amo_value op old (register h.regs rs2)) h.memory }))

-- ---- the step of a hart

-- the word at pc, or why there is none
abbrev pub fetched : Memory → ℕ → Result ℕ FaultKind
fetched m pc =
    if pc % 4 == 0
    then (if executable m pc 4 then Ok (word_at m pc) else Err faults.Fetch)
    else Err faults.MisalignedTarget

abbrev pub StepOfWord : Result ℕ FaultKind → Hart → Outcome → Type 0
StepOfWord (Err kind) h outcome = outcome ≡ Faulted kind
StepOfWord (Ok w) h outcome = (i : Option Instr) × Decodes w i × (outcome ≡ executed i h)

-- its one instruction has this outcome
abbrev pub HartStep : Hart → Outcome → Type 0
HartStep h outcome = StepOfWord (fetched h.memory h.regs.pc) h outcome

-- ---- the step of a thread

abbrev pub hart_of : State → Thread → Hart
hart_of s t = record { regs = t.regs; memory = s.memory; reservation = s.reservation }

-- the state with what the thread's hart has become
abbrev pub with_hart : ℕ → Thread → Hart → State → State
with_hart tid t h s =
    record (with_thread tid (record t { regs = h.regs }) s) { memory = h.memory; reservation = h.reservation }

-- the thread runs, and its one instruction has this outcome
pub record Step (s : State) (tid : ℕ) (t : Thread) (outcome : Outcome) : Type 0 where
  pub there : thread_at s tid ≡ Some t
  pub running : t.wait ≡ None
  pub does : HartStep (hart_of s t) outcome

-- a plain step from a state to the next
pub record StepsTo (s : State) (tid : ℕ) (after : State) : Type 0 where
  pub thread : Thread
  pub hart : Hart
  pub step : Step s tid thread (Next hart)
  pub after_is : after ≡ with_hart tid thread hart s

-- a call, in the state behind the ECALL
pub record CallsFrom (s : State) (tid : ℕ) (after : State) : Type 0 where
  pub thread : Thread
  pub hart : Hart
  pub step : Step s tid thread (Called hart)
  pub after_is : after ≡ with_hart tid thread hart s

pub record FaultsFrom (s : State) (tid : ℕ) (kind : FaultKind) : Type 0 where
  pub thread : Thread
  pub step : Step s tid thread (Faulted kind)

-- ---- which instructions may take memory

abbrev pub may_take_memory : Instr → Bool
may_take_memory (Store kind rs1 rs2 immediate) = Bool.true
may_take_memory (Sc ordering rd rs1 rs2) = Bool.true
may_take_memory (Amo op ordering rd rs1 rs2) = Bool.true
may_take_memory Ecall = Bool.true
may_take_memory _ = Bool.false

-- the instruction stores where it doesn't fault; an SC only where its address is reserved (section 8.2)
abbrev pub may_store : Instr → Hart → Bool
may_store (Store kind rs1 rs2 immediate) h = Bool.true
may_store (Sc ordering rd rs1 rs2) h = is_reserved h.reservation (register h.regs rs1)
may_store (Amo op ordering rd rs1 rs2) h = Bool.true
may_store _ h = Bool.false

-- the hart's next instruction passes the test, and does not fault
pub record NextIs (test : Instr → Hart → Bool) (h : Hart) : Type 0 where
  pub word : ℕ
  pub instr : Instr
  pub fetches : fetched h.memory h.regs.pc ≡ Ok word
  pub stands : Stands word instr
  pub passes : test instr h ≡ Bool.true
  pub goes : (kind : FaultKind) → executed (Some instr) h ≡ Faulted kind → ⊥

abbrev pub MayTakeMemory : Hart → Type 0
MayTakeMemory h = NextIs (λ i _. may_take_memory i) h

abbrev pub MayStore : Hart → Type 0
MayStore h = NextIs may_store h

-- the thread runs, and its next instruction passes the test
pub record ThreadNextIs (test : Instr → Hart → Bool) (s : State) (tid : ℕ) : Type 0 where
  pub thread : Thread
  pub there : thread_at s tid ≡ Some thread
  pub running : thread.wait ≡ None
  pub next : NextIs test (hart_of s thread)

abbrev pub ThreadMayTakeMemory : State → ℕ → Type 0
ThreadMayTakeMemory s tid = ThreadNextIs (λ i _. may_take_memory i) s tid

abbrev pub ThreadMayStore : State → ℕ → Type 0
ThreadMayStore s tid = ThreadNextIs may_store s tid
