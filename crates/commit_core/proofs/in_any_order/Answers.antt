use Rattle.std.proofs.Common.{sym, subst}
use Rattle.commit_core.specs.Events.{IsSchedule}
use Rattle.commit_core.proofs.Events.{schedule_front}
use Rattle.commit_core.proofs.Holders.{beginnings, in_any_order, pops_are_received, rows}
use Rattle.commit_core.proofs.SessionSafety.{safe_after}
use Rattle.commit_core.proofs.in_any_order.Goals as goal

pub returns-clause-schedule : goal.returns-clause-schedule
returns-clause-schedule c = in_any_order

pub returns-clause-safe : goal.returns-clause-safe
returns-clause-safe c start old events end is each finds front behind all =
    let schedule = (in_any_order start events end each finds).0 in
    safe_after start old front is (schedule_front start front behind (subst (IsSchedule start) (sym all) schedule))

pub returns-clause-rows : goal.returns-clause-rows
returns-clause-rows c = rows

pub returns-clause-beginnings : goal.returns-clause-beginnings
returns-clause-beginnings c = beginnings

pub returns-clause-received : goal.returns-clause-received
returns-clause-received c = pops_are_received
