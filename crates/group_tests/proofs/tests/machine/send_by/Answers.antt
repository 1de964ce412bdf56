use Rattle.group_tests.proofs.Seats.{submitted_stays, tried_stays}
use Rattle.group_tests.proofs.tests.machine.send_by.Goals as goal

pub returns-then-eq : goal.returns-then-eq
returns-then-eq g c = record { stays = submitted_stays c.submit.result _ _ _ c.submit.ensures.sent c.submit.ensures.refused }

pub returns-else-eq : goal.returns-else-eq
returns-else-eq g c = record { stays = tried_stays c.try_submit.result _ _ _ c.try_submit.ensures.sent c.try_submit.ensures.refused }
