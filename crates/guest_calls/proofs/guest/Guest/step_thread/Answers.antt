use Rattle.std.proofs.Common.{arith, ap}
use Rattle.guest_calls.specs.Guest.{GuestValue}
use Rattle.guest_calls.proofs.guest.Guest.step_thread.Goals as goal

pub returns-in-Memory-clause-refused_ran : goal.returns-in-Memory-clause-refused_ran
returns-in-Memory-clause-refused_ran c =
    let refused = rw c.in-Memory.is at c.run_thread-run.ensures.runs in
    let was = ap (λ (g : GuestValue). g.ran) c.self.view_is in
    let ran = c.run_thread-run.ensures.ran in
    omega (arith, c.self.invariant.0)

pub returns-in-Call-clause-ran_before_call : goal.returns-in-Call-clause-ran_before_call
returns-in-Call-clause-ran_before_call c =
    let p = rw c.in-Call.is at c.run_thread-run.ensures.runs in
    let some = p.some in let within = p.within in
    let was = ap (λ (g : GuestValue). g.ran) c.self.view_is in
    let before = c.run_thread-run.ensures.ran_before_call c.in-Call.is in
    λ e. omega (arith, before, c.self.invariant.0)
