use Rattle.commit_core.proofs.ExampleGroup.{pair_starts, both_leave}
use Rattle.commit_core.proofs.two_guests.Goals as goal

pub returns-clause-start : goal.returns-clause-start
returns-clause-start c = pair_starts

pub returns-clause-leave : goal.returns-clause-leave
returns-clause-leave c = both_leave
