use Rattle.std.proofs.Common.{refl, ◌∙◌}
use Rattle.std.specs.Vec.Iter.{into_iter_items}
use Rattle.session.specs.Sessions.{reports_of}
use Rattle.session.specs.Tasks.{seats_worked, jobs_worked, states_worked}
use Rattle.session.proofs.Pairs.{none_left}
use Rattle.session.proofs.Tasks.{all_passed}
use Rattle.session.proofs.hand_over.take_back.Goals as goal

pub returns-clause-seats : goal.returns-clause-seats
returns-clause-seats g c =
    let was = c.loop-worked.invariant in
    all_passed seats_worked refl c.loop-worked.seats.items (into_iter_items c.loop-worked.worked-iterator) (seats_worked c.args.done.items)
    was.0
    (none_left _ (was.2 ∙ c.in-None.ensures.steps.0))

pub returns-clause-jobs : goal.returns-clause-jobs
returns-clause-jobs g c =
    let was = c.loop-worked.invariant in
    all_passed jobs_worked refl c.loop-worked.jobs.items (into_iter_items c.loop-worked.worked-iterator) (jobs_worked c.args.done.items)
    was.1
    (none_left _ (was.2 ∙ c.in-None.ensures.steps.0))

pub returns-clause-reports : goal.returns-clause-reports
returns-clause-reports g c =
    let was = c.loop-worked.invariant in
    all_passed (reports_of c.args.first) refl c.loop-worked.reports.items (into_iter_items c.loop-worked.worked-iterator)
    (reports_of c.args.first c.args.done.items) was.5 (none_left _ (was.2 ∙ c.in-None.ensures.steps.0))

pub returns-clause-states : goal.returns-clause-states
returns-clause-states g c =
    let was = c.loop-worked.invariant in
    all_passed states_worked refl c.loop-worked.states.items (into_iter_items c.loop-worked.worked-iterator)
    (states_worked c.args.done.items) was.8
    (none_left _ (was.2 ∙ c.in-None.ensures.steps.0))
