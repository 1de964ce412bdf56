use Rattle.std.proofs.Common.{ap}
use Rattle.rrv_model.specs.Calls.{Bytes}
use Rattle.serial_sched.proofs.RecordedAnswers.{copied_whole}
use Rattle.serial_sched.proofs.recorded.RecordedOutside.random.Goals as goal

pub returns : goal.returns
returns c =
    record {
      gives = λ fits. ap Bytes
          (copied_whole c.args.self.now.bytes.now c.args.into.now c.copy.new.into c.copy.result c.copy.ensures.count c.copy.ensures.bytes
          fits);
    }
