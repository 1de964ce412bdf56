use Rattle.std.proofs.Common.{ap}
use Rattle.commit_group.specs.Seats.{RecorderValue}
use Rattle.group_tests.proofs.tests.machine.Machine.over.Goals as goal

pub invariant_of-result-clause-all : goal.invariant_of-result-clause-all
invariant_of-result-clause-all c k r there =
    let is = c.in_ok-seats.ensures.seats.1 k r there in
    (ap (λ (s : RecorderValue). s.group) is, ap (λ (s : RecorderValue). s.guest) is)
