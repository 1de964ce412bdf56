use Rattle.std.specs.Prelude.{◌-◌, length, take}
use Rattle.std.specs.List.{AllByRecursion}
use Rattle.session.specs.Openings.{StartsGuest}
use Rattle.session.proofs.opening.check_jobs.Given as goal

abbrev pub invariant-loop-place : goal.invariant-loop-place
invariant-loop-place g l = AllByRecursion StartsGuest (take l.place l.fn.jobs)

abbrev pub decreases-loop-place : goal.decreases-loop-place
decreases-loop-place g l = length l.fn.jobs - l.place
