use Rattle.rrv_model.proofs.CheckpointLaws.{checkpoints_exist}
use Rattle.rrv_model.proofs.laws.checkpoints_exist.Goals as goal

pub returns : goal.returns
returns c = checkpoints_exist
