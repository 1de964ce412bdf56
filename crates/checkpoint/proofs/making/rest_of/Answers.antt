use Rattle.std.proofs.Common.{◌∙◌, List, arith, subst, sym}
use Rattle.rrv_model.specs.declared.record.ThreadPart.{ThreadPart}
use Rattle.guest_calls.specs.Guest.{state_of}
use Rattle.checkpoint.specs.Made.{IsRestOf}
use Rattle.checkpoint.proofs.Rests.{rest_is}
use Rattle.checkpoint.proofs.making.rest_of.Goals as goal

pub returns-clause-rest : goal.returns-clause-rest
returns-clause-rest c =
    let parts = c.in_ok-parts.parts.items in
    let rest = rest_is c.args.guest.now c.threads-threads.result.now parts c.in_ok-waiting.waiting c.program_break.result c.next_tid.result
    c.threads-threads.ensures.value (c.in_ok-waiting.ensures ∙ c.waiting.ensures) c.next_tid.ensures c.program_break.ensures.value
    (omega (arith, c.program_break.ensures.value, c.program_break.ensures.high))
    c.in_ok-parts.ensures.rules c.in_ok-parts.ensures.told in
    subst (λ (ps : List ThreadPart). IsRestOf (state_of c.args.guest.now)
    (record { program_break = c.program_break.result; next_tid = c.next_tid.result; threads = ps; waiting = c.in_ok-waiting.waiting }))
    (sym c.from_vec.ensures) rest
