use Rattle.rrv_model.proofs.RunLaws.{one_end_state}
use Rattle.rrv_model.proofs.laws.one_end.Goals as goal

pub returns : goal.returns
returns c = one_end_state
