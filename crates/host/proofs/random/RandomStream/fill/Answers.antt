use Rattle.std.proofs.Common.{arith}
use Rattle.host.proofs.Filling.{are_next}
use Rattle.host.proofs.random.RandomStream.fill.Goals as goal

pub returns-clause-next : goal.returns-clause-next
returns-clause-next c =
    are_next _ _ _ _ _ c.loop-i.auto.into (λ i below. c.loop-i.invariant.3 i (omega (arith, below)))
