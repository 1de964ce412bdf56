use Rattle.std.specs.Prelude.{◌-◌, length, take}
use Rattle.session.specs.Openings.{AreOld}
use Rattle.session.proofs.opening.first_new.Given as goal

abbrev pub invariant-loop-place : goal.invariant-loop-place
invariant-loop-place g l = AreOld (take l.place l.fn.jobs)

abbrev pub decreases-loop-place : goal.decreases-loop-place
decreases-loop-place g l = length l.fn.jobs - l.place
