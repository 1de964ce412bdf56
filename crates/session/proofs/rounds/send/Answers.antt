use Rattle.recorder.proofs.Made.{keeps_sent}
use Rattle.session.proofs.Driven.{goes_sent}
use Rattle.session.proofs.rounds.send.Goals as goal

pub returns-clause-goes : goal.returns-clause-goes
returns-clause-goes g c = goes_sent _ _ c.send-result.ensures.some

pub returns-clause-keeps : goal.returns-clause-keeps
returns-clause-keeps g c = keeps_sent _ _ c.send-result.ensures.some
