use Rattle.rrv_model.proofs.FrameLaws.{one_state_after_frame}
use Rattle.rrv_model.proofs.laws.one_state_after_frame.Goals as goal

pub returns : goal.returns
returns c = one_state_after_frame
