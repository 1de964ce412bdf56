use Rattle.serial_sched.proofs.RecordedAnswers.{moment_told, moment_missing}
use Rattle.serial_sched.proofs.recorded.RecordedOutside.now.Goals as goal

pub returns-in-Some-clause-gives : goal.returns-in-Some-clause-gives
returns-in-Some-clause-gives c =
    λ seconds nanoseconds p. moment_told c.in-Some.moment c.args.self.now.bytes.now seconds nanoseconds c.in-Some.ensures.moment p

pub returns-in-None-clause-gives : goal.returns-in-None-clause-gives
returns-in-None-clause-gives c =
    λ seconds nanoseconds p. absurd (moment_missing c.args.self.now.bytes.now seconds nanoseconds c.in-None.ensures.moment p)
