-- What an instruction answers that is done at a place which the registers don't tell.
use Rattle.std.specs.Prelude.{ℕ, ◌+◌, ◌*◌, ◌/◌, min, Bool, Result, Ok, Err}
use Rattle.rrv_model.specs.declared.refusal.Memory.{Memory as Refusal}
use Rattle.rrv_model.specs.Memory.{is_within}
use Rattle.rrv_model.specs.Step.{Hart}
use Rattle.rrv_model.specs.Words.{plus}
use Rattle.rv_machine.specs.declared.Stepped.{Stepped}
use Rattle.rv_machine.specs.declared.Stepped.TheVariants as stepped
use Rattle.rv_machine.specs.declared.flow.Flow.{Flow}
use Rattle.rv_machine.specs.declared.flow.Flow.TheVariants as flows

-- the address of the instruction at an index of a page, which has 1,024
abbrev pub address_at : ℕ → ℕ → ℕ
address_at page index = (page * 1024 + min index 1023) * 4

-- the address at an index of the page of an address
abbrev pub entry_at : ℕ → ℕ → ℕ
entry_at a index = a / 4096 * 4096 + index * 4

-- the hart, where its next instruction is at pc
abbrev pub hart_at : ℕ → Hart → Hart
hart_at pc h = record h { regs = record h.regs { pc = pc } }

-- what a step answers
abbrev pub stepped_of : Flow → Stepped
stepped_of flows.Next = stepped.Next
stepped_of (flows.Stored stored) = stepped.Next
stepped_of (flows.Jump target) = stepped.Next
stepped_of (flows.In to) = stepped.Next
stepped_of flows.Call = stepped.Call
stepped_of (flows.Fault kind) = stepped.Fault kind

-- where the hart goes on after an instruction at pc
abbrev pub place_after : ℕ → Flow → ℕ
place_after pc flows.Next = plus pc 4
place_after pc (flows.Stored stored) = plus pc 4
place_after pc (flows.Jump target) = target
place_after pc (flows.In to) = entry_at pc to.index
place_after pc flows.Call = plus pc 4
place_after pc (flows.Fault kind) = pc

-- the same where it may be refused, and nothing is done then
abbrev pub answer_of : Result Flow Refusal → Result Stepped Refusal
answer_of (Ok flow) = Ok (stepped_of flow)
answer_of (Err refusal) = Err refusal

abbrev pub place_of : ℕ → Result Flow Refusal → ℕ
place_of pc (Ok flow) = place_after pc flow
place_of pc (Err refusal) = pc

-- whether the byte at an address may have changed
abbrev pub may_change : Result Flow Refusal → ℕ → Bool
may_change (Ok (flows.Stored stored)) a = is_within stored 4 a
may_change _ a = Bool.false
