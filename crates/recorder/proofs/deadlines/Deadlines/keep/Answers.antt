use Rattle.std.proofs.Common.{ℕ, List, sym, subst, arith, length, ap, is_some}
use Rattle.rrv_model.specs.State.{thread_at}
use Rattle.guest_calls.specs.Guest.{state_of}
use Rattle.recorder.specs.Deadlines.{AreRising, timeout_of}
use Rattle.recorder.proofs.DeadlineLists.{rising_of, few_without}
use Rattle.recorder.proofs.deadlines.Deadlines.keep.Goals as goal

pub returns-clause-rising : goal.returns-clause-rising
returns-clause-rising c =
    subst (λ (l : List (ℕ × ℕ)). AreRising l) (sym c.keep_timed.ensures.items)
    (rising_of (λ d. is_some (timeout_of (thread_at (state_of c.args.guest.now) d.0))) c.self.inside.list.items c.self.invariant.0)

pub invariant_of-self : goal.invariant_of-self
invariant_of-self c = (
  returns-clause-rising c,
  omega (
    arith,
    c.self.invariant.1,
    few_without (λ d. is_some (timeout_of (thread_at (state_of c.args.guest.now) d.0))) c.self.inside.list.items,
    ap (λ (l : List (ℕ × ℕ)). length l) c.keep_timed.ensures.items,
  ),
  omega (arith, c.self.invariant.2, c.keep_timed.ensures.capacity),
)
