-- What a hart's instruction leaves keeps the rules.
use Rattle.std.proofs.Common.{◌≡◌, ℕ, ◌-◌, ◌/◌, ◌%◌, ◌^◌, ◌<◌, Bool, true, false, cond, ◌==◌, nat_eq, if◌then◌else◌, List, Option, Some, None, Result, Ok, Err, All, slice_index, slice_set, length-set, get_or-set_other, refl, sym, ◌∙◌, subst, arith}
use Rattle.std.specs.Prelude.{IfSome}
use Rattle.std.specs.Int.{w8, w16, w32, to_le_bytes, from_le_bytes}
use Rattle.std.proofs.lemmas.Bool.Decides.{nat_tests}
use Rattle.std.proofs.lemmas.List.Elements.{All-set}
use Rattle.rrv_model.specs.declared.instr.Instr.{Instr}
use Rattle.rrv_model.specs.declared.instr.Instr.TheVariants.{Lui, Auipc, Jal, Jalr, Branch, Load, Store, OpImm, Shift, Op, Fence, FenceI, Ecall, Ebreak, Lr, Sc, Amo}
use Rattle.rrv_model.specs.declared.instr.LoadKind.{LoadKind}
use Rattle.rrv_model.specs.declared.instr.LoadKind.TheVariants.{Lb, Lh, Lw, Lbu, Lhu}
use Rattle.rrv_model.specs.declared.instr.StoreKind.{StoreKind}
use Rattle.rrv_model.specs.declared.instr.StoreKind.TheVariants.{Sb, Sh, Sw}
use Rattle.rrv_model.specs.declared.machine.FaultKind.{FaultKind}
use Rattle.rrv_model.specs.declared.machine.FaultKind.TheVariants as faults
use Rattle.rrv_model.specs.declared.machine.Regs.{Regs}
use Rattle.rrv_model.specs.Words.{plus, sign_extend}
use Rattle.rrv_model.specs.Instructions.{Decodes}
use Rattle.rrv_model.specs.Memory.{Memory, IsMemory, bytes_at, stored, readable, writable}
use Rattle.rrv_model.specs.State.{AreRegs, register, with_register}
use Rattle.rrv_model.specs.Step.{Hart, HartStep, StepOfWord, Outcome, Next, Called, Faulted, executed, fetched, jumps, sets, goes_on, atomic, is_reserved, loaded, load_len, stores, store_len, word_at, branches, op_value, immediate_value, shift_value, amo_value}
use Rattle.rrv_model.proofs.WordValues.{small-op_value, small-immediate_value, small-shift_value, small-immediate}
use Rattle.rrv_model.proofs.MemoryRules.{each_below, are_bytes, all-low_first, all-bytes_at, memory-stored, one_byte, half_word, word-small}

-- what holds of every hart
pub record IsHart (h : Hart) : Type 0 where
  pub regs : AreRegs h.regs
  pub memory : IsMemory h.memory
  pub reservation : IfSome h.reservation (λ a. a < 2 ^ 32)

abbrev pub LeavesHart : Outcome → Type 0
LeavesHart (Next h) = IsHart h
LeavesHart (Called h) = IsHart h
LeavesHart (Faulted kind) = Unit {0}

-- ---- registers

small_or_zero : (b : Bool) (n : ℕ) → n < 2 ^ 32 → (if b then 0 else n) < 2 ^ 32
small_or_zero true n h = omega arith
small_or_zero false n h = h

pub small-register : (regs : Regs) (r : ℕ) → AreRegs regs → register regs r < 2 ^ 32
small-register regs r h =
    small_or_zero (r == 0) (slice_index regs.registers r) (each_below (2 ^ 32) regs.registers (omega arith) h.registers.1 r)

first_kept : (xs : List ℕ) (r value : ℕ) → nat_eq r 0 ≡ false → slice_index xs 0 ≡ 0 → slice_index (slice_set xs r value) 0 ≡ 0
first_kept xs r value some first = grind (arith, nat_tests, get_or-set_other)

pub regs-with_register : (r value : ℕ) (regs : Regs) → value < 2 ^ 32 → AreRegs regs → AreRegs (with_register r value regs)
regs-with_register r value regs low h = by (nat_eq r 0) refl where
  by : (b : Bool) → nat_eq r 0 ≡ b → AreRegs (if b then regs else record regs { registers = slice_set regs.registers r value })
  by true e = h
  by false e = record {
    pc = h.pc;
    registers = (
      length-set {A = ℕ} regs.registers r value ∙ h.registers.0,
      All-set (λ value. value < 2 ^ 32) regs.registers r value low h.registers.1,
    );
    zero = first_kept regs.registers r value e h.zero;
  }

pub regs-with_pc : (pc : ℕ) (regs : Regs) → pc < 2 ^ 32 → AreRegs regs → AreRegs (record regs { pc = pc })
regs-with_pc pc regs low h = record { pc = low; registers = h.registers; zero = h.zero }

-- ---- harts

small-plus : (x y : ℕ) → plus x y < 2 ^ 32
small-plus x y = omega arith

with_regs : (regs : Regs) (h : Hart) → IsHart h → AreRegs regs → IsHart (goes_on regs h)
with_regs regs h is are =
    record { regs = regs-with_pc (plus regs.pc 4) regs (small-plus regs.pc 4) are; memory = is.memory; reservation = is.reservation }

with_stored : (a : ℕ) (bytes : List ℕ) (h : Hart) → All (λ b. b < 256) bytes → IsHart h →
    IsHart (record h { memory = stored a bytes h.memory })
with_stored a bytes h small is =
    record { regs = is.regs; memory = memory-stored a bytes h.memory (are_bytes bytes small) is.memory; reservation = is.reservation }

sets_keeps : (rd value : ℕ) (h : Hart) → value < 2 ^ 32 → IsHart h → LeavesHart (sets rd value h)
sets_keeps rd value h low is = with_regs (with_register rd value h.regs) h is (regs-with_register rd value h.regs low is.regs)

jumps_keeps : (rd target : ℕ) (h : Hart) → target < 2 ^ 32 → IsHart h → LeavesHart (jumps rd target h)
jumps_keeps rd target h low is = by (target % 4 == 0) where
  by : (b : Bool) →
      LeavesHart (cond b (Next (record h { regs = record (with_register rd (plus h.regs.pc 4) h.regs) { pc = target } }))
      (Faulted faults.MisalignedTarget))
  by true = record {
    regs = regs-with_pc target (with_register rd (plus h.regs.pc 4) h.regs) low
        (regs-with_register rd (plus h.regs.pc 4) h.regs (small-plus h.regs.pc 4) is.regs);
    memory = is.memory;
    reservation = is.reservation;
  }
  by false = tt

if_keeps : (b : Bool) (x y : Outcome) → LeavesHart x → LeavesHart y → LeavesHart (if b then x else y)
if_keeps true x y h g = h
if_keeps false x y h g = g

atomic_keeps : (allowed : Bool) (kind : FaultKind) (a : ℕ) (outcome : Outcome) → LeavesHart outcome →
    LeavesHart (atomic allowed kind a outcome)
atomic_keeps allowed kind a outcome h = if_keeps (a % 4 == 0) _ _ (if_keeps allowed outcome (Faulted kind) h tt) tt

small-word_at : (m : Memory) (a : ℕ) → IsMemory m → word_at m a < 2 ^ 32
small-word_at m a is = word-small (bytes_at m a 4) (are_bytes (bytes_at m a 4) (all-bytes_at m 4 a is.pages.cells))

small-extended_8 : (n : ℕ) → n < 2 ^ 8 → sign_extend 8 n < 2 ^ 32
small-extended_8 n low = grind (arith, nat_tests)

small-extended_16 : (n : ℕ) → n < 2 ^ 16 → sign_extend 16 n < 2 ^ 32
small-extended_16 n low = grind (arith, nat_tests)

read_byte : (m : Memory) (a : ℕ) → IsMemory m → from_le_bytes w8 (bytes_at m a 1) < 2 ^ 8
read_byte m a is = one_byte (bytes_at m a 1) (are_bytes (bytes_at m a 1) (all-bytes_at m 1 a is.pages.cells))

read_half : (m : Memory) (a : ℕ) → IsMemory m → from_le_bytes w16 (bytes_at m a 2) < 2 ^ 16
read_half m a is = half_word (bytes_at m a 2) (are_bytes (bytes_at m a 2) (all-bytes_at m 2 a is.pages.cells))

small-loaded : (kind : LoadKind) (m : Memory) (a : ℕ) → IsMemory m → loaded kind m a < 2 ^ 32
small-loaded Lb m a is = small-extended_8 (from_le_bytes w8 (bytes_at m a 1)) (read_byte m a is)
small-loaded Lh m a is = small-extended_16 (from_le_bytes w16 (bytes_at m a 2)) (read_half m a is)
small-loaded Lw m a is = small-word_at m a is
small-loaded Lbu m a is = let low = read_byte m a is in omega (arith, low)
small-loaded Lhu m a is = let low = read_half m a is in omega (arith, low)

stores_keeps : (kind : StoreKind) (a value : ℕ) (h : Hart) → IsHart h → IsHart (record h { memory = stores kind a value h.memory })
stores_keeps Sb a value h is = with_stored a (to_le_bytes w8 value) h (all-low_first 1 0 value) is
stores_keeps Sh a value h is = with_stored a (to_le_bytes w16 value) h (all-low_first 2 0 value) is
stores_keeps Sw a value h is = with_stored a (to_le_bytes w32 value) h (all-low_first 4 0 value) is

-- ---- instructions

-- an immediate is a word
abbrev HasImmediate : Option Instr → Type 0
HasImmediate None = Unit {0}
HasImmediate (Some i) = of_instruction i where
  of_instruction : Instr → Type 0
  of_instruction (Lui rd immediate) = immediate < 2 ^ 32
  of_instruction (OpImm op rd rs1 immediate) = immediate < 2 ^ 32
  of_instruction _ = Unit {0}

has_immediate : (w : ℕ) (i : Option Instr) → Decodes w i → HasImmediate i
has_immediate w None d = tt
has_immediate w (Some (Lui rd immediate)) d = let e = d.immediate_is in omega (arith, e)
has_immediate w (Some (Auipc rd immediate)) d = tt
has_immediate w (Some (Jal rd offset)) d = tt
has_immediate w (Some (Jalr rd rs1 immediate)) d = tt
has_immediate w (Some (Branch test rs1 rs2 offset)) d = tt
has_immediate w (Some (Load kind rd rs1 immediate)) d = tt
has_immediate w (Some (Store kind rs1 rs2 immediate)) d = tt
has_immediate w (Some (OpImm op rd rs1 immediate)) d = subst (λ n. n < 2 ^ 32) d.immediate_is (small-immediate (w / 2 ^ 20))
has_immediate w (Some (Shift op rd rs1 amount)) d = tt
has_immediate w (Some (Op op rd rs1 rs2)) d = tt
has_immediate w (Some Fence) d = tt
has_immediate w (Some FenceI) d = tt
has_immediate w (Some Ecall) d = tt
has_immediate w (Some Ebreak) d = tt
has_immediate w (Some (Lr ordering rd rs1)) d = tt
has_immediate w (Some (Sc ordering rd rs1 rs2)) d = tt
has_immediate w (Some (Amo op ordering rd rs1 rs2)) d = tt

executed_keeps : (i : Option Instr) (h : Hart) → HasImmediate i → IsHart h → LeavesHart (executed i h)
unfolding executed
executed_keeps None h low is = tt
executed_keeps (Some (Lui rd immediate)) h low is = sets_keeps rd immediate h low is
executed_keeps (Some (Auipc rd immediate)) h low is = sets_keeps rd (plus h.regs.pc immediate) h (small-plus h.regs.pc immediate) is
executed_keeps (Some (Jal rd offset)) h low is = jumps_keeps rd (plus h.regs.pc offset) h (small-plus h.regs.pc offset) is
executed_keeps (Some (Jalr rd rs1 immediate)) h low is =
    let target = plus (register h.regs rs1) immediate in
    let fits : target < 2 ^ 32 = small-plus (register h.regs rs1) immediate in
    jumps_keeps rd (target - target % 2) h (omega (arith, fits)) is
executed_keeps (Some (Branch test rs1 rs2 offset)) h low is =
    if_keeps (branches test (register h.regs rs1) (register h.regs rs2)) _ _
    (jumps_keeps 0 (plus h.regs.pc offset) h (small-plus h.regs.pc offset) is) (with_regs h.regs h is is.regs)
executed_keeps (Some (Load kind rd rs1 immediate)) h low is =
    let a = plus (register h.regs rs1) immediate in
    if_keeps (readable h.memory a (load_len kind)) _ _
    (sets_keeps rd (loaded kind h.memory a) h (small-loaded kind h.memory a is.memory) is) tt
executed_keeps (Some (Store kind rs1 rs2 immediate)) h low is =
    let a = plus (register h.regs rs1) immediate in
    if_keeps (writable h.memory a (store_len kind)) _ _
    (with_regs h.regs (record h { memory = stores kind a (register h.regs rs2) h.memory }) (stores_keeps kind a (register h.regs rs2) h is)
    is.regs) tt
executed_keeps (Some (OpImm op rd rs1 immediate)) h low is =
    sets_keeps rd (immediate_value op (register h.regs rs1) immediate) h
    (small-immediate_value op (register h.regs rs1) immediate (small-register h.regs rs1 is.regs) low) is
executed_keeps (Some (Shift op rd rs1 amount)) h low is =
    sets_keeps rd (shift_value op (register h.regs rs1) amount) h
    (small-shift_value op (register h.regs rs1) amount (small-register h.regs rs1 is.regs)) is
executed_keeps (Some (Op op rd rs1 rs2)) h low is =
    sets_keeps rd (op_value op (register h.regs rs1) (register h.regs rs2)) h
    (small-op_value op (register h.regs rs1) (register h.regs rs2) (small-register h.regs rs1 is.regs) (small-register h.regs rs2 is.regs))
    is
executed_keeps (Some Fence) h low is = with_regs h.regs h is is.regs
executed_keeps (Some FenceI) h low is = with_regs h.regs h is is.regs
executed_keeps (Some Ecall) h low is = with_regs h.regs h is is.regs
executed_keeps (Some Ebreak) h low is = tt
executed_keeps (Some (Lr ordering rd rs1)) h low is =
    let a = register h.regs rs1 in
    atomic_keeps (readable h.memory a 4) _ a _
    (sets_keeps rd (word_at h.memory a) (record h { reservation = Some a }) (small-word_at h.memory a is.memory)
    (record { regs = is.regs; memory = is.memory; reservation = small-register h.regs rs1 is.regs }))
executed_keeps (Some (Sc ordering rd rs1 rs2)) h low is =
    let a = register h.regs rs1 in
    let after : Hart = record h { reservation = None } in
    let is_after : IsHart after = record { regs = is.regs; memory = is.memory; reservation = tt } in
    atomic_keeps (writable h.memory a 4) _ a _ (if_keeps (is_reserved h.reservation a) _ _
    (sets_keeps rd 0 (record after { memory = stores Sw a (register h.regs rs2) h.memory }) (omega arith)
    (stores_keeps Sw a (register h.regs rs2) after is_after))
    (sets_keeps rd 1 after (omega arith) is_after))
executed_keeps (Some (Amo op ordering rd rs1 rs2)) h low is =
    let a = register h.regs rs1 in
    let old = word_at h.memory a in
    atomic_keeps (writable h.memory a 4) _ a _
    (sets_keeps rd old (record h { memory = stores Sw a (amo_value op old (register h.regs rs2)) h.memory })
    (small-word_at h.memory a is.memory)
    (stores_keeps Sw a (amo_value op old (register h.regs rs2)) h is))

-- ---- steps

of_word : (r : Result ℕ FaultKind) (h : Hart) (outcome : Outcome) → StepOfWord r h outcome → IsHart h → LeavesHart outcome
of_word (Err kind) h outcome e is = subst LeavesHart (sym e) tt
of_word (Ok w) h outcome d is = subst LeavesHart (sym d.2) (executed_keeps d.0 h (has_immediate w d.0 d.1) is)

-- an instruction of a hart leaves a hart
pub hart_keeps : (h : Hart) (outcome : Outcome) → HartStep h outcome → IsHart h → LeavesHart outcome
hart_keeps h outcome does is = of_word (fetched h.memory h.regs.pc) h outcome does is
