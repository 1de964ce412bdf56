-- The number of the call that a thread made is in its a7 after the call, if it is still there.
use Rattle.std.proofs.Common.{◌≡◌, ℕ, Option, Some, None, refl, sym, subst, ◌∙◌, ap}
use Rattle.rrv_model.specs.declared.machine.Thread.{Thread}
use Rattle.rrv_model.specs.State.{State, thread_at}
use Rattle.rrv_model.proofs.CallKeeps.{Has, number}
use Rattle.rrv_model.proofs.CallRules.{call_keeps}
use Rattle.turn_text.specs.Turns.{CallNumbersAreKept, call_number}

told : (n : ℕ) (o : Option Thread) → Has n o → call_number o ≡ n
told n None h = sym h
told n (Some t) h = h

pub call_numbers_are_kept : CallNumbersAreKept
call_numbers_are_kept old tid count r new step =
    let goes = step.goes in
    let call = goes.answered in
    let n = number call.thread in
    let there : Has n (thread_at goes.called tid) = subst (λ (o : Option Thread). Has n o) (sym call.there) refl in
    ap (λ (q : State). call_number (thread_at q tid)) goes.new_is
    ∙ told n (thread_at goes.after tid) ((call_keeps goes.called tid goes.answer r goes.after call).told there)
