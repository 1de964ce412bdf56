use Rattle.session.proofs.Starts.{starts_are_worlds}
use Rattle.session.proofs.laws.starts_are_worlds.Goals as goal

pub returns : goal.returns
returns g c = starts_are_worlds g.D.Disk
