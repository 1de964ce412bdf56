-- What may find no memory.
use Rattle.std.proofs.Common.{◌≡◌, ℕ, true, Option, Some, Result, Ok, Err, refl, subst}
use Rattle.std.proofs.lemmas.Bool.{false≢true}
use Rattle.rrv_model.specs.declared.machine.FaultKind.{FaultKind}
use Rattle.rrv_model.specs.declared.instr.Instr.{Instr}
use Rattle.rrv_model.specs.declared.instr.Instr.TheVariants.{Lui, Auipc, Jal, Jalr, Branch, Load, Store, OpImm, Shift, Op, Fence, FenceI, Ecall, Ebreak, Lr, Sc, Amo}
use Rattle.rrv_model.specs.Instructions.{Decodes}
use Rattle.rrv_model.specs.State.{State}
use Rattle.rrv_model.specs.Step.{Hart, Called, Faulted, StepOfWord, MayStore, MayTakeMemory, ThreadMayStore, ThreadMayTakeMemory, CallsFrom, executed, fetched, hart_of, may_store, may_take_memory}
use Rattle.guest_calls.proofs.Ecalls.{called_is, ecall}

-- an ECALL does not fault
goes : (h : Hart) (kind : FaultKind) → executed (Some Ecall) h ≡ Faulted kind → ⊥
unfolding executed
goes h kind e = called_is (Faulted kind) _ e refl

takes_of_word : (r : Result ℕ FaultKind) (h after : Hart) → fetched h.memory h.regs.pc ≡ r → StepOfWord r h (Called after) → MayTakeMemory h
takes_of_word (Err kind) h after fetches e = absurd (called_is _ after e refl)
takes_of_word (Ok w) h after fetches p = record {
  word = w;
  instr = Ecall;
  fetches = fetches;
  stands = subst (λ (i : Option Instr). Decodes w i) (ecall p.0 h after p.2) p.1;
  passes = refl;
  goes = goes h;
}

-- a call may find no memory
pub call_may_take : (s : State) (tid : ℕ) (after : State) → CallsFrom s tid after → ThreadMayTakeMemory s tid
call_may_take s tid after p = record {
  thread = p.thread;
  there = p.step.there;
  running = p.step.running;
  next = takes_of_word (fetched s.memory p.thread.regs.pc) (hart_of s p.thread) p.hart refl p.step.does;
}

-- what stores may find no memory
stores_take : (i : Instr) (h : Hart) → may_store i h ≡ true → may_take_memory i ≡ true
stores_take (Lui rd immediate) h e = absurd (false≢true e)
stores_take (Auipc rd immediate) h e = absurd (false≢true e)
stores_take (Jal rd offset) h e = absurd (false≢true e)
stores_take (Jalr rd rs1 immediate) h e = absurd (false≢true e)
stores_take (Branch test rs1 rs2 offset) h e = absurd (false≢true e)
stores_take (Load kind rd rs1 immediate) h e = absurd (false≢true e)
stores_take (Store kind rs1 rs2 immediate) h e = refl
stores_take (OpImm op rd rs1 immediate) h e = absurd (false≢true e)
stores_take (Shift op rd rs1 amount) h e = absurd (false≢true e)
stores_take (Op op rd rs1 rs2) h e = absurd (false≢true e)
stores_take Fence h e = absurd (false≢true e)
stores_take FenceI h e = absurd (false≢true e)
stores_take Ecall h e = absurd (false≢true e)
stores_take Ebreak h e = absurd (false≢true e)
stores_take (Lr ordering rd rs1) h e = absurd (false≢true e)
stores_take (Sc ordering rd rs1 rs2) h e = refl
stores_take (Amo op ordering rd rs1 rs2) h e = refl

store_takes : (h : Hart) → MayStore h → MayTakeMemory h
store_takes h p =
    record {
      word = p.word;
      instr = p.instr;
      fetches = p.fetches;
      stands = p.stands;
      passes = stores_take p.instr h p.passes;
      goes = p.goes;
    }

pub store_may_take : (s : State) (tid : ℕ) → ThreadMayStore s tid → ThreadMayTakeMemory s tid
store_may_take s tid p = record { thread = p.thread; there = p.there; running = p.running; next = store_takes (hart_of s p.thread) p.next }
