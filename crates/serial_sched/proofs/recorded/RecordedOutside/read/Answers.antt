use Rattle.std.proofs.Common.{ap}
use Rattle.rrv_model.specs.Calls.{Bytes}
use Rattle.serial_sched.proofs.RecordedAnswers.{copied_part}
use Rattle.serial_sched.proofs.recorded.RecordedOutside.read.Goals as goal

pub returns-clause-gives : goal.returns-clause-gives
returns-clause-gives c =
    λ fits. ap Bytes
    (copied_part c.args.self.now.bytes.now c.args.into.now c.copy.new.into c.copy.result c.copy.ensures.count c.copy.ensures.bytes fits)
