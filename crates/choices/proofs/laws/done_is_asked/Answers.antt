use Rattle.choices.proofs.Asked.{done_is_asked}
use Rattle.choices.proofs.laws.done_is_asked.Goals as goal

pub returns : goal.returns
returns c = done_is_asked
