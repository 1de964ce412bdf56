-- A state and a frame leave one state after at most.
use Rattle.std.proofs.Common.{◌≡◌, ℕ, zero, suc, Option, Some, None, Result, Ok, Err, sym, ◌∙◌, ap, subst, refl}
use Rattle.rrv_model.specs.declared.machine.FaultKind.{FaultKind}
use Rattle.rrv_model.specs.declared.machine.Thread.{Thread}
use Rattle.rrv_model.specs.declared.instr.Instr.{Instr}
use Rattle.rrv_model.specs.declared.record.End.{End}
use Rattle.rrv_model.specs.declared.record.CallRecord.{CallRecord}
use Rattle.rrv_model.specs.Instructions.{Decodes}
use Rattle.rrv_model.specs.State.{State}
use Rattle.rrv_model.specs.Step.{Hart, Step, StepOfWord, HartStep, StepsTo, CallsFrom, Outcome, Next, Called, fetched, executed, hart_of, with_hart}
use Rattle.rrv_model.specs.Calls.{Calls}
use Rattle.rrv_model.specs.Ends.{call_in, guest_end, is_expiry}
use Rattle.rrv_model.specs.FrameStep.{Steps, FrameStepBy, OneStateAfterFrame, closed_by}
use Rattle.rrv_model.proofs.InstructionLaws.{one_row}
use Rattle.rrv_model.proofs.CallLaws.{one_state_after_call, same_thread}
use Rattle.rrv_model.proofs.Ends.{AnswersCall, expired_by, frame_parts, plain_steps}

one_decoding : (w : ℕ) (i j : Option Instr) → Decodes w i → Decodes w j → i ≡ j
one_decoding w (Some i) (Some j) p q = ap Some (one_row w i j p q)
one_decoding w (Some i) None p q = absurd (q i p)
one_decoding w None (Some j) p q = absurd (p j q)
one_decoding w None None p q = refl

one_outcome_of_word : (r : Result ℕ FaultKind) (h : Hart) (o o' : Outcome) → StepOfWord r h o → StepOfWord r h o' → o ≡ o'
one_outcome_of_word (Err kind) h o o' p q = p ∙ sym q
one_outcome_of_word (Ok w) h o o' p q =
    p.2 ∙ ap (λ i. executed i h) (one_decoding w p.0 q.0 p.1 q.1) ∙ sym q.2

-- a hart's step has one outcome
pub one_outcome : (h : Hart) (o o' : Outcome) → HartStep h o → HartStep h o' → o ≡ o'
one_outcome h o o' p q = one_outcome_of_word (fetched h.memory h.regs.pc) h o o' p q

next_harts : (s t : Hart) → Next s ≡ Next t → s ≡ t
next_harts s t e = cc

called_harts : (s t : Hart) → Called s ≡ Called t → s ≡ t
called_harts s t e = cc

-- the outcomes of one thread's steps from one state
one_outcome_of : (s : State) (tid : ℕ) (t u : Thread) (o o' : Outcome) → Step s tid t o → Step s tid u o' → (t ≡ u) × (o ≡ o')
one_outcome_of s tid t u o o' p q =
    let e : u ≡ t = same_thread _ _ _ q.there p.there in
    (sym e, one_outcome (hart_of s t) o o' p.does (subst (λ (v : Thread). HartStep (hart_of s v) o') e q.does))

-- a plain step leads to one state at most
pub one_step : (s : State) (tid : ℕ) (after after' : State) → StepsTo s tid after → StepsTo s tid after' → after ≡ after'
one_step s tid after after' p q =
    let one = one_outcome_of s tid p.thread q.thread (Next p.hart) (Next q.hart) p.step q.step in
    let hart : p.hart ≡ q.hart = next_harts p.hart q.hart one.1 in
    p.after_is ∙ (λ i. with_hart tid (one.0 i) (hart i) s) ∙ sym q.after_is

one_call_from : (s : State) (tid : ℕ) (after after' : State) → CallsFrom s tid after → CallsFrom s tid after' → after ≡ after'
one_call_from s tid after after' p q =
    let one = one_outcome_of s tid p.thread q.thread (Called p.hart) (Called q.hart) p.step q.step in
    let hart : p.hart ≡ q.hart = called_harts p.hart q.hart one.1 in
    p.after_is ∙ (λ i. with_hart tid (one.0 i) (hart i) s) ∙ sym q.after_is

-- so many steps lead to one state at most
pub one_end : (n tid : ℕ) (s after after' : State) → Steps n tid s after → Steps n tid s after' → after ≡ after'
one_end zero tid s after after' p q = p ∙ sym q
one_end (suc n) tid s after after' p q =
    let e : q.0 ≡ p.0 = one_step s tid q.0 p.0 q.1 p.1 in
    one_end n tid p.0 after after' p.2 (subst (λ (m : State). Steps n tid m after') e q.2)

one_called : (s s' : State) (tid : ℕ) (t t' : State) → s' ≡ s → CallsFrom s tid t → CallsFrom s' tid t' → t' ≡ t
one_called s s' tid t t' e p q = one_call_from s tid t' t (subst (λ (m : State). CallsFrom m tid t') e q) p

one_answered : (o : Option CallRecord) (tid : ℕ) (s s' after after' : State) → s' ≡ s → AnswersCall o tid s after →
    AnswersCall o tid s' after' → after ≡ after'
one_answered None tid s s' after after' e p q = p ∙ sym e ∙ sym q
one_answered (Some r) tid s s' after after' e (called, answer, calls, answered) (called', answer', calls', answered') =
    let same : called' ≡ called = one_called s s' tid called called' e calls calls' in
    one_state_after_call called tid r answer answer' after after' answered
    (subst (λ (m : State). Calls m tid answer' r after') same answered')

one_by : (end : End) (old : State) (tid count : ℕ) (new new' : State) → FrameStepBy end old tid count new →
    FrameStepBy end old tid count new' → new ≡ new'
one_by end old tid count new new' p q =
    let a = frame_parts end old tid count new p in
    let b = frame_parts end old tid count new' q in
    let before : b.before ≡ a.before = one_end (plain_steps end count) tid old b.before a.before b.steps a.steps in
    a.new_is
    ∙ ap (λ (s : State). closed_by (guest_end end) (expired_by (is_expiry end) tid s))
    (one_answered (call_in end) tid a.before b.before a.after b.after before a.answers b.answers)
    ∙ sym b.new_is

pub one_state_after_frame : OneStateAfterFrame
one_state_after_frame old frame new new' p q = one_by frame.end old frame.tid frame.count new new' p.goes q.goes
