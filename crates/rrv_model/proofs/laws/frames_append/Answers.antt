use Rattle.rrv_model.proofs.RunLaws.{frames_append}
use Rattle.rrv_model.proofs.laws.frames_append.Goals as goal

pub returns : goal.returns
returns c = frames_append
