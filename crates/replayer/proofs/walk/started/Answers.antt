use Rattle.std.proofs.Common.{subst, sym}
use Rattle.faults.specs.declared.replay.VerifyFault.{VerifyFault}
use Rattle.replayer.specs.Refusals.{RefusesFirst}
use Rattle.replayer.proofs.Walked.{refused_opening}
use Rattle.replayer.proofs.walk.started.Goals as goal

pub returns-in-Err-clause-refused : goal.returns-in-Err-clause-refused
returns-in-Err-clause-refused c = λ r zero is.
    subst (λ (e : VerifyFault). RefusesFirst e r) (sym c.of_opening.ensures)
    (refused_opening c.in-Err.fault r c.args.opening.now zero is c.in-Err.ensures.refused)
