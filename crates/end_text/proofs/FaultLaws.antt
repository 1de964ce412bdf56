-- The address that is told of a fault is that of the fault.
use Rattle.std.proofs.Common.{◌≡◌, ◌∙◌, ℕ, zero, suc, ◌+◌, ◌-◌, ◌%◌, ◌==◌, Bool, true, false, ◌&&◌, if◌then◌else◌, Option, Some, None, Ok, Err, ap, refl, sym, subst, arith}
use Rattle.std.proofs.lemmas.Bool.{false≢true, and_parts}
use Rattle.std.specs.Prelude.{IsSomeAnd, is_some}
use Rattle.rrv_model.specs.declared.instr.Instr.{Instr}
use Rattle.rrv_model.specs.declared.instr.Instr.TheVariants.{Lui, Auipc, Jal, Jalr, Branch, Load, Store, OpImm, Shift, Op, Fence, FenceI, Ecall, Ebreak, Lr, Sc, Amo}
use Rattle.rrv_model.specs.declared.machine.FaultKind.{FaultKind}
use Rattle.rrv_model.specs.declared.machine.FaultKind.TheVariants as faults
use Rattle.rrv_model.specs.declared.machine.Regs.{Regs}
use Rattle.rrv_model.specs.declared.machine.Thread.{Thread}
use Rattle.rrv_model.specs.Memory.{Memory, Cell, all_cells, can_read, can_write, can_execute, executable, readable, writable}
use Rattle.rrv_model.specs.State.{State, register, thread_at}
use Rattle.rrv_model.specs.Step.{Hart, HartStep, StepOfWord, Outcome, Next, Called, Faulted, executed, jumps, atomic, is_reserved, load_len, store_len, word_at, branches}
use Rattle.rrv_model.specs.Words.{plus}
use Rattle.rrv_model.specs.WordReader.{read}
use Rattle.rrv_model.proofs.Decoding.{decodes}
use Rattle.rv_decode.specs.Answers.{OneAnswer}
use Rattle.end_text.specs.Ends.{accessed, fault_address, instruction_of, mapped_word, target}
use Rattle.end_text.specs.Faults.{FaultsAreTold, HasRefused, IsFaultAt, IsToldOf, access_len}

-- ---- cells

-- where not all cells pass, one fails
refused : (test : Option Cell → Bool) (m : Memory) (a n : ℕ) → all_cells test m a n ≡ false → HasRefused test m a n
unfolding all_cells
refused test m a zero h = absurd (false≢true (sym h))
refused test m a (suc n) h = by (all_cells test m a n) (test (m (a + n))) refl (refused test m a n) h where
  by : (before here : Bool) → test (m (a + n)) ≡ here → (before ≡ false → HasRefused test m a n) → (before && here) ≡ false →
      HasRefused test m a (suc n)
  by true true k earlier both = absurd (false≢true (sym both))
  by true false k earlier both = (n, omega arith, k)
  by false here k earlier both = let r = earlier refl in let low = r.1 in (r.0, omega (arith, low), r.2)

executable_there : (c : Option Cell) → can_execute c ≡ true → is_some c ≡ true
executable_there None h = h
executable_there (Some c) h = refl

-- bytes that may be executed are there
all_there : (m : Memory) (a n : ℕ) → all_cells can_execute m a n ≡ true → all_cells is_some m a n ≡ true
unfolding all_cells
all_there m a zero h = refl
all_there m a (suc n) h =
    let both = and_parts (all_cells can_execute m a n) (can_execute (m (a + n))) h in
    rw (all_there m a n both.0, executable_there (m (a + n)) both.1) refl

-- ---- instructions

-- of a fault: its address is the one that is told
abbrev Told : Memory → Regs → Option Instr → Outcome → Type 0
Told m regs i (Next h) = Unit {0}
Told m regs i (Called h) = Unit {0}
Told m regs i (Faulted kind) = IsFaultAt kind m (access_len i) (fault_address kind regs i)

by_test : (P : Outcome → Type 0) (b : Bool) (x y : Outcome) → (b ≡ true → P x) → (b ≡ false → P y) → P (if b then x else y)
by_test P true x y h k = h refl
by_test P false x y h k = k refl

jump_told : (i : Option Instr) (h : Hart) (rd a : ℕ) → (h.regs.pc % 4 == 0) ≡ true → target h.regs i ≡ Some a →
    Told h.memory h.regs i (jumps rd a h)
jump_told i h rd a aligned goes =
    by_test (Told h.memory h.regs i) (a % 4 == 0) _ _ (λ _. tt) (λ e. rw (aligned, goes) e)

atomic_told : (i : Option Instr) (h : Hart) (allowed : Bool) (kind : FaultKind) (a : ℕ) (outcome : Outcome) → accessed h.regs i ≡ Some a →
    Told h.memory h.regs i outcome → (allowed ≡ false → Told h.memory h.regs i (Faulted kind)) →
    Told h.memory h.regs i (atomic allowed kind a outcome)
atomic_told i h allowed kind a outcome at done fails =
    by_test (Told h.memory h.regs i) (a % 4 == 0) _ _ (λ _. by_test (Told h.memory h.regs i) allowed _ _ (λ _. done) fails) (λ e. rw at e)

executed_told : (i : Option Instr) (h : Hart) → (h.regs.pc % 4 == 0) ≡ true → Told h.memory h.regs i (executed i h)
unfolding executed accessed target
executed_told None h aligned = refl
executed_told (Some (Lui rd immediate)) h aligned = tt
executed_told (Some (Auipc rd immediate)) h aligned = tt
executed_told (Some (Jal rd offset)) h aligned = jump_told (Some (Jal rd offset)) h rd (plus h.regs.pc offset) aligned refl
executed_told (Some (Jalr rd rs1 immediate)) h aligned =
    let a = plus (register h.regs rs1) immediate in jump_told (Some (Jalr rd rs1 immediate)) h rd (a - a % 2) aligned refl
executed_told (Some (Branch test rs1 rs2 offset)) h aligned =
    let i : Option Instr = Some (Branch test rs1 rs2 offset) in
    by_test (Told h.memory h.regs i) (branches test (register h.regs rs1) (register h.regs rs2)) _ _
    (λ _. jump_told i h 0 (plus h.regs.pc offset) aligned refl) (λ _. tt)
executed_told (Some (Load kind rd rs1 immediate)) h aligned =
    let a = plus (register h.regs rs1) immediate in
    by_test (Told h.memory h.regs (Some (Load kind rd rs1 immediate))) (readable h.memory a (load_len kind)) _ _
    (λ _. tt) (refused can_read h.memory a (load_len kind))
executed_told (Some (Store kind rs1 rs2 immediate)) h aligned =
    let a = plus (register h.regs rs1) immediate in
    by_test (Told h.memory h.regs (Some (Store kind rs1 rs2 immediate))) (writable h.memory a (store_len kind)) _ _
    (λ _. tt) (refused can_write h.memory a (store_len kind))
executed_told (Some (OpImm op rd rs1 immediate)) h aligned = tt
executed_told (Some (Shift op rd rs1 amount)) h aligned = tt
executed_told (Some (Op op rd rs1 rs2)) h aligned = tt
executed_told (Some Fence) h aligned = tt
executed_told (Some FenceI) h aligned = tt
executed_told (Some Ecall) h aligned = tt
executed_told (Some Ebreak) h aligned = refl
executed_told (Some (Lr ordering rd rs1)) h aligned =
    let a = register h.regs rs1 in
    atomic_told (Some (Lr ordering rd rs1)) h (readable h.memory a 4) faults.Load a _ refl tt (refused can_read h.memory a 4)
executed_told (Some (Sc ordering rd rs1 rs2)) h aligned =
    let a = register h.regs rs1 in
    let i : Option Instr = Some (Sc ordering rd rs1 rs2) in
    atomic_told i h (writable h.memory a 4) faults.Store a _ refl
    (by_test (Told h.memory h.regs i) (is_reserved h.reservation a) _ _ (λ _. tt) (λ _. tt)) (refused can_write h.memory a 4)
executed_told (Some (Amo op ordering rd rs1 rs2)) h aligned =
    let a = register h.regs rs1 in
    atomic_told (Some (Amo op ordering rd rs1 rs2)) h (writable h.memory a 4) faults.Store a _ refl tt (refused can_write h.memory a 4)

-- ---- steps

-- of the instruction at pc
abbrev ToldThere : Hart → Outcome → Type 0
ToldThere h outcome = Told h.memory h.regs (instruction_of (mapped_word h.memory h.regs.pc)) outcome

word_there : (h : Hart) → executable h.memory h.regs.pc 4 ≡ true → mapped_word h.memory h.regs.pc ≡ Some (word_at h.memory h.regs.pc)
word_there h e = rw (all_there h.memory h.regs.pc 4 e) refl

step_told : OneAnswer → (h : Hart) (outcome : Outcome) → HartStep h outcome → ToldThere h outcome
step_told one h outcome does = by (h.regs.pc % 4 == 0) (executable h.memory h.regs.pc 4) refl refl does where
  by : (aligned allowed : Bool) → (h.regs.pc % 4 == 0) ≡ aligned → executable h.memory h.regs.pc 4 ≡ allowed →
      StepOfWord (if aligned then (if allowed then Ok (word_at h.memory h.regs.pc) else Err faults.Fetch) else Err faults.MisalignedTarget)
      h outcome →
      ToldThere h outcome
  by false allowed e k d = subst (ToldThere h) (sym d) (rw e e)
  by true false e k d = subst (ToldThere h) (sym d) (refused can_execute h.memory h.regs.pc 4 k)
  by true true e k d =
      let w = word_at h.memory h.regs.pc in
      let same : read w ≡ d.0 = one w (read w) d.0 (decodes w (read w) refl) d.1 in
      let there : instruction_of (mapped_word h.memory h.regs.pc) ≡ d.0 = ap instruction_of (word_there h k) ∙ same in
      subst (λ (i : Option Instr). Told h.memory h.regs i outcome) (sym there)
      (subst (Told h.memory h.regs d.0) (sym d.2) (executed_told d.0 h e))

pub faults_are_told : OneAnswer → FaultsAreTold
faults_are_told one old new tid count kind ends =
    let before = ends.before in
    let step = ends.faults.step in
    let t = ends.faults.thread in
    subst (λ (s : State). IsSomeAnd (thread_at s tid) (λ t. IsToldOf kind s.memory t.regs)) (sym ends.new_is)
    (subst (λ (o : Option Thread). IsSomeAnd o (λ t. IsToldOf kind before.memory t.regs)) (sym step.there)
    (step_told one (record { regs = t.regs; memory = before.memory; reservation = before.reservation }) (Faulted kind) step.does))
