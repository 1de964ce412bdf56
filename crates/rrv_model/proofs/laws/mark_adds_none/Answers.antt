use Rattle.rrv_model.proofs.RecoveredLaws.{mark_adds_none}
use Rattle.rrv_model.proofs.laws.mark_adds_none.Goals as goal

pub returns : goal.returns
returns c = mark_adds_none
