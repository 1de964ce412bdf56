use Rattle.commit_core.proofs.ExampleSessions.{first_opens, sessions_follow}
use Rattle.commit_core.proofs.sessions_follow.Goals as goal

pub returns-clause-opens : goal.returns-clause-opens
returns-clause-opens c = first_opens

pub returns-clause-follow : goal.returns-clause-follow
returns-clause-follow c = sessions_follow
