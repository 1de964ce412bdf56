use Rattle.std.proofs.Common.{◌↔◌, length}
use Rattle.rrv_model.specs.Checkpoint.{EndsWithRest}
use Rattle.checkpoint.proofs.fitting.rest_of.Given as goal

abbrev pub invariant-loop-left : goal.invariant-loop-left
invariant-loop-left l = (rest : _) → EndsWithRest l.left rest ↔ EndsWithRest l.parts rest

abbrev pub decreases-loop-left : goal.decreases-loop-left
decreases-loop-left l = length l.left
