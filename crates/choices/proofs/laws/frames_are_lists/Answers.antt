use Rattle.choices.proofs.Sliced.{frames_are_lists}
use Rattle.choices.proofs.laws.frames_are_lists.Goals as goal

pub returns : goal.returns
returns c = frames_are_lists
