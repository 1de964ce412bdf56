-- What a run of a thread's plain steps does.
use Rattle.std.specs.Prelude.{◌≡◌, ℕ, ◌-◌, ◌<◌, ◌≤◌}
use Rattle.rrv_model.specs.declared.machine.FaultKind.{FaultKind}
use Rattle.rrv_model.specs.Words.{minus}
use Rattle.rrv_model.specs.State.{State}
use Rattle.rrv_model.specs.Step.{CallsFrom, FaultsFrom, StepsTo, ThreadMayStore}
use Rattle.rrv_model.specs.CallRows.{change_thread}
use Rattle.rrv_model.specs.FrameStep.{Steps}
use Rattle.rv_machine.specs.declared.Stepped.{Stepped}
use Rattle.rv_machine.specs.declared.Stepped.TheVariants as stepped
use Rattle.rv_machine.specs.declared.run.Run.{Run}
use Rattle.rv_machine.specs.declared.run.RunEnd.{RunEnd}
use Rattle.rv_machine.specs.declared.run.RunEnd.TheVariants.{Limit, Call, Fault, Memory}
use Rattle.rv_machine.specs.Watching.{WatchedSteps, byte_of}

-- the thread stands at its last instruction again
abbrev pub before_call : ℕ → State → State
before_call tid s = change_thread tid (λ t. record t { regs = record t.regs { pc = minus t.regs.pc 4 } }) s

-- the last instruction is a call, and the state is the one behind its ECALL
pub record RunsToCall (limit tid count : ℕ) (old new : State) : Type 0 where
  pub some : 1 ≤ count
  pub within : count ≤ limit
  pub before : State
  pub steps : Steps (count - 1) tid old before
  pub calls : CallsFrom before tid new
  pub back : before_call tid new ≡ before

-- the last instruction is a fault, which changes nothing
pub record RunsToFault (limit tid count : ℕ) (kind : FaultKind) (old new : State) : Type 0 where
  pub some : 1 ≤ count
  pub within : count ≤ limit
  pub steps : Steps (count - 1) tid old new
  pub faults : FaultsFrom new tid kind

-- the next instruction, which stores and is not counted, found no memory
pub record RunsToMemory (limit tid count : ℕ) (old new : State) : Type 0 where
  pub within : count < limit
  pub steps : Steps count tid old new
  pub takes : ThreadMayStore new tid

abbrev pub RunsTo : RunEnd → ℕ → ℕ → ℕ → State → State → Type 0
RunsTo Limit limit tid count old new = (count ≡ limit) × Steps limit tid old new
RunsTo Call limit tid count old new = RunsToCall limit tid count old new
RunsTo (Fault kind) limit tid count old new = RunsToFault limit tid count kind old new
RunsTo Memory limit tid count old new = RunsToMemory limit tid count old new

-- the thread's instructions from old on, up to a limit
abbrev pub Runs : ℕ → ℕ → State → Run → State → Type 0
Runs limit tid old run new = RunsTo run.end limit tid run.count old new

-- one instruction of the thread; a fault changes nothing
abbrev pub StepDoes : Stepped → ℕ → State → State → Type 0
StepDoes stepped.Next tid old new = StepsTo old tid new
StepDoes stepped.Call tid old new = CallsFrom old tid new × (before_call tid new ≡ old)
StepDoes (stepped.Fault kind) tid old new = FaultsFrom old tid kind × (new ≡ old)

-- so many plain steps of the thread, and how many of them there are up to the last that changes the byte at an address
abbrev pub Watched : ℕ → ℕ → ℕ → State → ℕ → State → Type 0
Watched a n tid old changed new =
    WatchedSteps (λ s later. StepsTo s tid later) (λ s. byte_of s.memory a) n old changed new
