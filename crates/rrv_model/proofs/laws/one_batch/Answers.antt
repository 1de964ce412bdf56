use Rattle.rrv_model.proofs.RecoveredLaws.{one_batch}
use Rattle.rrv_model.proofs.laws.one_batch.Goals as goal

pub returns : goal.returns
returns c = one_batch
