use Rattle.recorder.proofs.DeadlineLists.{due_now, none_due}
use Rattle.recorder.proofs.deadlines.due_is_earliest.Goals as goal

pub returns-clause-some : goal.returns-clause-some
returns-clause-some c = due_now

pub returns-clause-none : goal.returns-clause-none
returns-clause-none c = none_due
