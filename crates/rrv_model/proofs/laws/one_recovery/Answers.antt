use Rattle.rrv_model.proofs.RecoveredLaws.{one_recovery}
use Rattle.rrv_model.proofs.laws.one_recovery.Goals as goal

pub returns : goal.returns
returns c = one_recovery
