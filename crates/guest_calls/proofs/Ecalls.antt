-- Only an ECALL is a call.
use Rattle.std.proofs.Common.{◌≡◌, ℕ, Bool, true, false, cond, Option, Some, None, Result, Ok, Err, refl, sym, ap, ◌∙◌, arith}
use Rattle.std.proofs.lemmas.Bool.{false≢true}
use Rattle.std.proofs.lemmas.Bool.Decides.{nat_tests}
use Rattle.rrv_model.specs.declared.machine.FaultKind.{FaultKind}
use Rattle.rrv_model.specs.declared.instr.Instr.{Instr}
use Rattle.rrv_model.specs.declared.instr.Instr.TheVariants.{Lui, Auipc, Jal, Jalr, Branch, Load, Store, OpImm, Shift, Op, Fence, FenceI, Ecall, Ebreak, Lr, Sc, Amo}
use Rattle.rrv_model.specs.Step.{Hart, Outcome, Next, Called, Faulted, HartStep, StepOfWord, executed, fetched, goes_on}

abbrev pub is_call : Outcome → Bool
is_call (Next h) = false
is_call (Called h) = true
is_call (Faulted kind) = false

either : (b : Bool) (x y : Outcome) → is_call x ≡ false → is_call y ≡ false → is_call (cond b x y) ≡ false
either true x y p q = p
either false x y p q = q

pub called_is : (o : Outcome) (h : Hart) → Called h ≡ o → is_call o ≡ false → ⊥
called_is o h e p = absurd (false≢true (sym p ∙ ap is_call (sym e)))

same_hart : (g h : Hart) → Called g ≡ Called h → g ≡ h
same_hart g h e = cc

-- a call is an ECALL's
pub ecall : (i : Option Instr) (h after : Hart) → Called after ≡ executed i h → i ≡ Some Ecall
unfolding executed
ecall None h after e = absurd (called_is _ after e refl)
ecall (Some (Lui rd immediate)) h after e = absurd (called_is _ after e refl)
ecall (Some (Auipc rd immediate)) h after e = absurd (called_is _ after e refl)
ecall (Some (Jal rd offset)) h after e = absurd (called_is _ after e (grind (arith, nat_tests, either)))
ecall (Some (Jalr rd rs1 immediate)) h after e = absurd (called_is _ after e (grind (arith, nat_tests, either)))
ecall (Some (Branch test rs1 rs2 offset)) h after e = absurd (called_is _ after e (grind (arith, nat_tests, either)))
ecall (Some (Load kind rd rs1 immediate)) h after e = absurd (called_is _ after e (grind (arith, nat_tests, either)))
ecall (Some (Store kind rs1 rs2 immediate)) h after e = absurd (called_is _ after e (grind (arith, nat_tests, either)))
ecall (Some (OpImm op rd rs1 immediate)) h after e = absurd (called_is _ after e refl)
ecall (Some (Shift op rd rs1 amount)) h after e = absurd (called_is _ after e refl)
ecall (Some (Op op rd rs1 rs2)) h after e = absurd (called_is _ after e refl)
ecall (Some Fence) h after e = absurd (called_is _ after e refl)
ecall (Some FenceI) h after e = absurd (called_is _ after e refl)
ecall (Some Ecall) h after e = refl
ecall (Some Ebreak) h after e = absurd (called_is _ after e refl)
ecall (Some (Lr ordering rd rs1)) h after e = absurd (called_is _ after e (grind (arith, nat_tests, either)))
ecall (Some (Sc ordering rd rs1 rs2)) h after e = absurd (called_is _ after e (grind (arith, nat_tests, either)))
ecall (Some (Amo op ordering rd rs1 rs2)) h after e = absurd (called_is _ after e (grind (arith, nat_tests, either)))

called_by : (i : Option Instr) (h after : Hart) → i ≡ Some Ecall → Called after ≡ executed i h → after ≡ goes_on h.regs h
unfolding executed
called_by i h after is e = same_hart after _ (e ∙ ap (λ (i : Option Instr). executed i h) is)

called_by_word : (r : Result ℕ FaultKind) (h after : Hart) → StepOfWord r h (Called after) → after ≡ goes_on h.regs h
called_by_word (Err kind) h after e = absurd (called_is _ after e refl)
called_by_word (Ok w) h after p = called_by p.0 h after (ecall p.0 h after p.2) p.2

-- the hart behind an ECALL
pub called_hart : (h after : Hart) → HartStep h (Called after) → after ≡ goes_on h.regs h
called_hart h after p = called_by_word (fetched h.memory h.regs.pc) h after p
