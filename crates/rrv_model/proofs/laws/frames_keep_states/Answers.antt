use Rattle.rrv_model.proofs.StateLaws.{frames_keep_states}
use Rattle.rrv_model.proofs.laws.frames_keep_states.Goals as goal

pub returns : goal.returns
returns c = frames_keep_states
