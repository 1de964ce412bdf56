use Rattle.std.proofs.Common.{◌↔◌, length}
use Rattle.store_model.specs.CrashModel.{IsTouched}
use Rattle.trace_disk.proofs.mem_disk.is_touched.Given as goal

abbrev pub invariant-loop-rest : goal.invariant-loop-rest
invariant-loop-rest l = IsTouched l.rest l.place ↔ IsTouched l.ranges l.place

abbrev pub decreases-loop-rest : goal.decreases-loop-rest
decreases-loop-rest l = length l.rest
