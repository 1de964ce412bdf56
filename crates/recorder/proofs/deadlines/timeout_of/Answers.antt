use Rattle.std.proofs.Common.{◌≡◌, Option, Some, None, ap, sym}
use Rattle.rrv_model.specs.declared.machine.Thread.{Thread}
use Rattle.rrv_model.specs.State.{IsRunning}
use Rattle.recorder.specs.Deadlines.{timeout_in, timeout_of}
use Rattle.recorder.proofs.deadlines.timeout_of.Goals as goal

-- a thread that runs has none
none_of_running : (t : Option Thread) → IsRunning t → None ≡ timeout_of t
none_of_running None runs = absurd runs
none_of_running (Some t) runs = sym (ap timeout_in runs)

pub returns-then-is_running : goal.returns-then-is_running
returns-then-is_running c = none_of_running _ (c.is_running.ensures.runs.0 c.if-is_running.true)
