use Rattle.session.proofs.Opens.{can_follow}
use Rattle.session.proofs.laws.sessions_can_follow.Goals as goal

pub returns : goal.returns
returns g c committed batch log log' bodies earlier h = can_follow g.D.Disk committed batch log log' bodies earlier h
