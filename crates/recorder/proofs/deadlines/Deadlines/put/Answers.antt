use Rattle.std.proofs.Common.{◌<◌, ◌⊎◌, ℕ, List, sym, subst, arith, length, ap}
use Rattle.recorder.specs.Deadlines.{AreRising, HasDeadline}
use Rattle.recorder.proofs.DeadlineLists.{few_put, rising_put}
use Rattle.recorder.proofs.deadlines.Deadlines.put.Goals as goal

pub put_among-requires-clause-room : goal.put_among-requires-clause-room
put_among-requires-clause-room c =
    omega (
      arith,
      few_put c.args.tid c.args.at c.self.inside.list.items
          (subst (λ (l : List (ℕ × ℕ)). (length l < 64) ⊎ HasDeadline l c.args.tid) (sym c.self.view_is) c.requires) c.self.invariant.1,
      c.self.invariant.2,
    )

pub returns-clause-rising : goal.returns-clause-rising
returns-clause-rising c =
    subst (λ (l : List (ℕ × ℕ)). AreRising l) (sym c.put_among.ensures.items)
    (rising_put c.args.tid c.args.at c.self.inside.list.items c.self.invariant.0)

pub invariant_of-self : goal.invariant_of-self
invariant_of-self c = (
  returns-clause-rising c,
  omega (
    arith,
    few_put c.args.tid c.args.at c.self.inside.list.items
        (subst (λ (l : List (ℕ × ℕ)). (length l < 64) ⊎ HasDeadline l c.args.tid) (sym c.self.view_is) c.requires) c.self.invariant.1,
    ap (λ (l : List (ℕ × ℕ)). length l) c.put_among.ensures.items,
  ),
  omega (arith, c.self.invariant.2, c.put_among.ensures.capacity),
)
