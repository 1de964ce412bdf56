use Rattle.std.specs.Prelude.{◌++◌, take}
use Rattle.session.specs.Faults.{IsLowest, flusher_met}
use Rattle.session.specs.Tasks.{faults_met}
use Rattle.session.proofs.lowest.lowest_fault.Given as goal

abbrev pub invariant-loop-worked : goal.invariant-loop-worked
invariant-loop-worked g l = IsLowest (flusher_met l.fn.flushed ++ faults_met (take l.worked-index l.fn.done)) l.lowest
