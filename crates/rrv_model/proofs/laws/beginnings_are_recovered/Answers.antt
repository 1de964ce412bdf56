use Rattle.rrv_model.proofs.RecoveredLaws.{beginnings_are_recovered}
use Rattle.rrv_model.proofs.laws.beginnings_are_recovered.Goals as goal

pub returns : goal.returns
returns c = beginnings_are_recovered
