use Rattle.core_file.proofs.RunLaws.{runs_are_found}
use Rattle.core_file.proofs.laws.runs_are_found.Goals as goal

pub returns : goal.returns
returns c = runs_are_found
