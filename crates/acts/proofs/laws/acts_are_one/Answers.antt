use Rattle.acts.proofs.One.{acts_are_one}
use Rattle.acts.proofs.laws.acts_are_one.Goals as goal

pub returns : goal.returns
returns c = acts_are_one
