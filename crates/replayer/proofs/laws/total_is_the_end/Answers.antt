use Rattle.replayer.proofs.Last.{total_is_the_end}
use Rattle.replayer.proofs.laws.total_is_the_end.Goals as goal

pub returns : goal.returns
returns c = total_is_the_end
