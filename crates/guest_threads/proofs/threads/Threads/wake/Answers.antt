use Rattle.std.proofs.Common.{sym, ◌∙◌}
use Rattle.guest_threads.proofs.Waking.{begins, goes_on, none_left_to_wake, all_woken, count_woken, count_wakes}
use Rattle.guest_threads.proofs.threads.Threads.wake.Goals as goal

pub loop-done-init : goal.loop-done-init
loop-done-init c = begins c.args.address c.args.count c.args.self.now

pub loop-done-preserved : goal.loop-done-preserved
loop-done-preserved c =
    goes_on _ _ _ c.in-Some.tid _ _ _ c.loop-done.invariant c.loop-done-test.true c.first_waiter.ensures.once
    (λ s. sym c.in-Some.is ∙ c.first_waiter.ensures.first) c.resume.ensures

pub returns-in_default-clause-count : goal.returns-in_default-clause-count
returns-in_default-clause-count c =
    none_left_to_wake _ _ _ _ _ c.loop-done.invariant (λ s. sym c.in_default.is ∙ c.first_waiter.ensures.first)

pub returns-in_default-clause-wakes : goal.returns-in_default-clause-wakes
returns-in_default-clause-wakes c =
    all_woken _ _ _ _ _ c.loop-done.invariant (λ s. sym c.in_default.is ∙ c.first_waiter.ensures.first)

pub returns-clause-count : goal.returns-clause-count
returns-clause-count c = count_woken _ _ _ _ _ c.loop-done.invariant c.loop-done-test.false c.loop-done.auto.done-end

pub returns-clause-wakes : goal.returns-clause-wakes
returns-clause-wakes c = count_wakes _ _ _ _ _ c.loop-done.invariant c.loop-done-test.false
