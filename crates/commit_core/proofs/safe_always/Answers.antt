use Rattle.std.proofs.Common.{inr}
use Rattle.commit_core.specs.Events.{run}
use Rattle.commit_core.proofs.Schedules.{invariant_at_start, invariant_of_run, facts}
use Rattle.commit_core.proofs.Recovery.{recovers}
use Rattle.commit_core.proofs.safe_always.Goals as goal

pub returns-clause-facts : goal.returns-clause-facts
returns-clause-facts c =
    λ start old events is schedule. facts (run start events) old
    (invariant_of_run start old events (invariant_at_start start old is) schedule)

pub returns-clause-crash : goal.returns-clause-crash
returns-clause-crash c =
    λ start old events content is schedule crash. recovers (run start events) old
    (invariant_of_run start old events (invariant_at_start start old is) schedule) content (inr crash)
