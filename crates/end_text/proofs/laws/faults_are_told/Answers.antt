use Rattle.end_text.proofs.FaultLaws.{faults_are_told}
use Rattle.end_text.proofs.laws.faults_are_told.Goals as goal

pub returns : goal.returns
returns c = faults_are_told c.one_answer.ensures
