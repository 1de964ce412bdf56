-- From a state a thread goes one way at most.
use Rattle.std.proofs.Common.{◌≡◌, ℕ, zero, suc, ◌+◌, ◌-◌, ◌<◌, ◌≤◌, Option, Some, None, refl, sym, ◌∙◌, ◌≢◌, ap, subst, arith}
use Rattle.rrv_model.specs.declared.machine.FaultKind.{FaultKind}
use Rattle.rrv_model.specs.declared.machine.Thread.{Thread}
use Rattle.rrv_model.specs.State.{State, thread_at, IsRunning}
use Rattle.rrv_model.specs.Step.{Hart, HartStep, Outcome, Next, Called, Faulted, Step, StepsTo, CallsFrom, FaultsFrom, hart_of, with_hart}
use Rattle.rrv_model.specs.FrameStep.{Steps}
use Rattle.rrv_model.proofs.CallLaws.{same_thread}
use Rattle.rrv_model.proofs.FrameLaws.{one_outcome, one_step, one_end}
use Rattle.rrv_model.proofs.Threads.{get-insert_same}
use Rattle.rv_machine.specs.declared.run.RunEnd.{RunEnd}
use Rattle.rv_machine.specs.declared.run.RunEnd.TheVariants as ends
use Rattle.guest_calls.specs.Runs.{RunsTo, RunsToCall}
use Rattle.serial_sched.specs.Follows.{Reaches, ReachesCall, ReachesFault}

-- ---- one instruction

one_outcome_of : (s : State) (tid : ℕ) (t u : Thread) (o o' : Outcome) → Step s tid t o → Step s tid u o' → o ≡ o'
one_outcome_of s tid t u o o' p q =
    let e : u ≡ t = same_thread _ _ _ q.there p.there in
    one_outcome (hart_of s t) o o' p.does (subst (λ (v : Thread). HartStep (hart_of s v) o') e q.does)

no_step_at_call : (s : State) (tid : ℕ) (a b : State) → CallsFrom s tid a → StepsTo s tid b → ⊥
no_step_at_call s tid a b p q =
    let e : Called p.hart ≡ Next q.hart = one_outcome_of s tid p.thread q.thread (Called p.hart) (Next q.hart) p.step q.step in cc

no_step_at_fault : (s : State) (tid : ℕ) (kind : FaultKind) (b : State) → FaultsFrom s tid kind → StepsTo s tid b → ⊥
no_step_at_fault s tid kind b p q =
    let e : Faulted kind ≡ Next q.hart = one_outcome_of s tid p.thread q.thread (Faulted kind) (Next q.hart) p.step q.step in cc

no_fault_at_call : (s : State) (tid : ℕ) (a : State) (kind : FaultKind) → CallsFrom s tid a → FaultsFrom s tid kind → ⊥
no_fault_at_call s tid a kind p q =
    let e : Called p.hart ≡ Faulted kind = one_outcome_of s tid p.thread q.thread (Called p.hart) (Faulted kind) p.step q.step in cc

one_kind : (s : State) (tid : ℕ) (kind kind' : FaultKind) → FaultsFrom s tid kind → FaultsFrom s tid kind' → kind ≡ kind'
one_kind s tid kind kind' p q =
    let e : Faulted kind ≡ Faulted kind' = one_outcome_of s tid p.thread q.thread (Faulted kind) (Faulted kind') p.step q.step in cc

called_harts : (g h : Hart) → Called g ≡ Called h → g ≡ h
called_harts g h e = cc

pub one_call_from : (s : State) (tid : ℕ) (after after' : State) → CallsFrom s tid after → CallsFrom s tid after' → after ≡ after'
one_call_from s tid after after' p q =
    let hart : p.hart ≡ q.hart =
    called_harts p.hart q.hart (one_outcome_of s tid p.thread q.thread (Called p.hart) (Called q.hart) p.step q.step) in
    let thread : p.thread ≡ q.thread = same_thread _ _ _ p.step.there q.step.there in
    p.after_is ∙ (λ i. with_hart tid (thread i) (hart i) s) ∙ sym q.after_is

-- ---- several

-- where more steps lead on, a step is taken
longer : (n m tid : ℕ) (s a b : State) → n < m → Steps n tid s a → Steps m tid s b → (mid : State) × StepsTo a tid mid
longer n zero tid s a b h p q = absurd (omega arith)
longer zero (suc m) tid s a b h p q = (q.0, subst (λ (x : State). StepsTo x tid q.0) (sym p) q.1)
longer (suc n) (suc m) tid s a b h p q =
    let e : q.0 ≡ p.0 = one_step s tid q.0 p.0 q.1 p.1 in
    longer n m tid p.0 a b (omega arith) p.2 (subst (λ (x : State). Steps m tid x b) e q.2)

-- the instruction behind some steps is no plain step
no_longer_than_call : (n m tid : ℕ) (s x a b : State) → n < m → Steps n tid s x → CallsFrom x tid a → Steps m tid s b → ⊥
no_longer_than_call n m tid s x a b h p calls q = let on = longer n m tid s x b h p q in no_step_at_call x tid a on.0 calls on.1

no_longer_than_fault : (n m tid : ℕ) (kind : FaultKind) (s x b : State) → n < m → Steps n tid s x → FaultsFrom x tid kind →
    Steps m tid s b → ⊥
no_longer_than_fault n m tid kind s x b h p faults q = let on = longer n m tid s x b h p q in no_step_at_fault x tid kind on.0 faults on.1

-- ---- runs and their ends

-- a run to a call reaches it
pub call_reached : (limit n tid : ℕ) (s called : State) → RunsToCall limit tid n s called → ReachesCall n tid s called
call_reached limit n tid s called p = record { some = p.some; before = p.before; steps = p.steps; calls = p.calls }

-- a whole run reaches its end
pub reached : (end : RunEnd) (limit n tid : ℕ) (s a : State) → n ≡ limit → RunsTo end limit tid n s a → Reaches end n tid s a
reached ends.Limit limit n tid s a e p = subst (λ (m : ℕ). Steps m tid s a) (sym e) p.1
reached ends.Call limit n tid s a e p = call_reached limit n tid s a p
reached (ends.Fault kind) limit n tid s a e p = record { some = p.some; steps = p.steps; faults = p.faults }
reached ends.Memory limit n tid s a e p = let within = p.within in absurd (omega arith)

-- no longer run goes past a call or a fault
past_call : (end : RunEnd) (n m tid : ℕ) (s x a b : State) → n + 1 < m → Steps n tid s x → CallsFrom x tid a → Reaches end m tid s b → ⊥
past_call ends.Limit n m tid s x a b h p calls q = no_longer_than_call n m tid s x a b (omega arith) p calls q
past_call ends.Call n m tid s x a b h p calls q = no_longer_than_call n (m - 1) tid s x a q.before (omega arith) p calls q.steps
past_call (ends.Fault kind) n m tid s x a b h p calls q = no_longer_than_call n (m - 1) tid s x a b (omega arith) p calls q.steps
past_call ends.Memory n m tid s x a b h p calls q = q

past_fault : (end : RunEnd) (n m tid : ℕ) (kind : FaultKind) (s x b : State) → n + 1 < m → Steps n tid s x → FaultsFrom x tid kind →
    Reaches end m tid s b → ⊥
past_fault ends.Limit n m tid kind s x b h p faults q = no_longer_than_fault n m tid kind s x b (omega arith) p faults q
past_fault ends.Call n m tid kind s x b h p faults q = no_longer_than_fault n (m - 1) tid kind s x q.before (omega arith) p faults q.steps
past_fault (ends.Fault other) n m tid kind s x b h p faults q = no_longer_than_fault n (m - 1) tid kind s x b (omega arith) p faults q.steps
past_fault ends.Memory n m tid kind s x b h p faults q = q

-- where a run has stopped early, and not for memory, no run reaches the limit
pub stopped : (end : RunEnd) (limit n tid : ℕ) (s a : State) → end ≢ ends.Memory → n ≢ limit → RunsTo end limit tid n s a →
    (end' : RunEnd) (b : State) → Reaches end' limit tid s b → ⊥
stopped ends.Limit limit n tid s a memory early p end' b q = absurd (early p.0)
stopped ends.Call limit n tid s a memory early p end' b q =
    let some = p.some in let within = p.within in past_call end' (n - 1) limit tid s p.before a b (omega arith) p.steps p.calls q
stopped (ends.Fault kind) limit n tid s a memory early p end' b q =
    let some = p.some in let within = p.within in past_fault end' (n - 1) limit tid kind s a b (omega arith) p.steps p.faults q
stopped ends.Memory limit n tid s a memory early p end' b q = absurd (memory refl)

-- so many instructions have one end
call_or_fault : (n tid : ℕ) (kind : FaultKind) (s a b : State) → ReachesCall n tid s a → ReachesFault n tid kind s b → ⊥
call_or_fault n tid kind s a b p q =
    let e : b ≡ p.before = one_end (n - 1) tid s b p.before q.steps p.steps in
    no_fault_at_call p.before tid a kind p.calls (subst (λ (x : State). FaultsFrom x tid kind) e q.faults)

steps_or_call : (n tid : ℕ) (s a b : State) → Steps n tid s a → ReachesCall n tid s b → ⊥
steps_or_call n tid s a b p q = let some = q.some in no_longer_than_call (n - 1) n tid s q.before b a (omega arith) q.steps q.calls p

steps_or_fault : (n tid : ℕ) (kind : FaultKind) (s a b : State) → Steps n tid s a → ReachesFault n tid kind s b → ⊥
steps_or_fault n tid kind s a b p q = let some = q.some in no_longer_than_fault (n - 1) n tid kind s b a (omega arith) q.steps q.faults p

fault_or_fault : (n tid : ℕ) (kind kind' : FaultKind) (s a b : State) → ReachesFault n tid kind s a → ReachesFault n tid kind' s b →
    kind ≡ kind'
fault_or_fault n tid kind kind' s a b p q =
    let e : b ≡ a = one_end (n - 1) tid s b a q.steps p.steps in
    one_kind a tid kind kind' p.faults (subst (λ (x : State). FaultsFrom x tid kind') e q.faults)

pub one_run_end : (end end' : RunEnd) (n tid : ℕ) (s a b : State) → Reaches end n tid s a → Reaches end' n tid s b → end ≡ end'
one_run_end ends.Limit ends.Limit n tid s a b p q = refl
one_run_end ends.Limit ends.Call n tid s a b p q = absurd (steps_or_call n tid s a b p q)
one_run_end ends.Limit (ends.Fault kind) n tid s a b p q = absurd (steps_or_fault n tid kind s a b p q)
one_run_end ends.Limit ends.Memory n tid s a b p q = absurd q
one_run_end ends.Call ends.Limit n tid s a b p q = absurd (steps_or_call n tid s b a q p)
one_run_end ends.Call ends.Call n tid s a b p q = refl
one_run_end ends.Call (ends.Fault kind) n tid s a b p q = absurd (call_or_fault n tid kind s a b p q)
one_run_end ends.Call ends.Memory n tid s a b p q = absurd q
one_run_end (ends.Fault kind) ends.Limit n tid s a b p q = absurd (steps_or_fault n tid kind s b a q p)
one_run_end (ends.Fault kind) ends.Call n tid s a b p q = absurd (call_or_fault n tid kind s b a q p)
one_run_end (ends.Fault kind) (ends.Fault other) n tid s a b p q = ap ends.Fault (fault_or_fault n tid kind other s a b p q)
one_run_end (ends.Fault kind) ends.Memory n tid s a b p q = absurd q
one_run_end ends.Memory end' n tid s a b p q = absurd p

-- one state is behind so many instructions, of which the last is a call
pub one_called : (n tid : ℕ) (s a b : State) → ReachesCall n tid s a → ReachesCall n tid s b → a ≡ b
one_called n tid s a b p q =
    let e : q.before ≡ p.before = one_end (n - 1) tid s q.before p.before q.steps p.steps in
    one_call_from p.before tid a b p.calls (subst (λ (x : State). CallsFrom x tid b) e q.calls)

-- ---- running threads

running : (o : Option Thread) (t : Thread) → o ≡ Some t → t.wait ≡ None → IsRunning o
running o t there runs = subst (λ (x : Option Thread). IsRunning x) (sym there) runs

running_before : (n tid : ℕ) (s a : State) → Steps n tid s a → IsRunning (thread_at a tid) → IsRunning (thread_at s tid)
running_before zero tid s a p runs = subst (λ (x : State). IsRunning (thread_at x tid)) p runs
running_before (suc n) tid s a p runs = running _ p.1.thread p.1.step.there p.1.step.running

running_to_step : (n tid : ℕ) (s a : State) → 1 ≤ n → Steps n tid s a → IsRunning (thread_at s tid)
running_to_step zero tid s a h p = absurd (omega arith)
running_to_step (suc n) tid s a h p = running _ p.1.thread p.1.step.there p.1.step.running

-- a thread that runs on was running
pub running_at : (end : RunEnd) (n tid : ℕ) (s a : State) → 1 ≤ n → Reaches end n tid s a → IsRunning (thread_at s tid)
running_at ends.Limit n tid s a h p = running_to_step n tid s a h p
running_at ends.Call n tid s a h p =
    running_before (n - 1) tid s p.before p.steps (running _ p.calls.thread p.calls.step.there p.calls.step.running)
running_at (ends.Fault kind) n tid s a h p =
    running_before (n - 1) tid s a p.steps (running _ p.faults.thread p.faults.step.there p.faults.step.running)
running_at ends.Memory n tid s a h p = absurd p

-- a thread runs on behind its ECALL
pub running_behind : (s : State) (tid : ℕ) (a : State) → CallsFrom s tid a → IsRunning (thread_at a tid)
running_behind s tid a p =
    let t : Thread = record p.thread { regs = p.hart.regs } in
    running (thread_at a tid) t (ap (λ (x : State). thread_at x tid) p.after_is ∙ get-insert_same s.threads tid t) p.step.running

-- ---- plain steps end no guest

pub steps_end_none : (n tid : ℕ) (s a : State) → Steps n tid s a → a.ended ≡ s.ended
steps_end_none zero tid s a p = ap (λ (x : State). x.ended) p
steps_end_none (suc n) tid s a p = steps_end_none n tid p.0 a p.2 ∙ ap (λ (x : State). x.ended) p.1.after_is

pub call_ends_none : (n tid : ℕ) (s a : State) → ReachesCall n tid s a → a.ended ≡ s.ended
call_ends_none n tid s a p = ap (λ (x : State). x.ended) p.calls.after_is ∙ steps_end_none (n - 1) tid s p.before p.steps
