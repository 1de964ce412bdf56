use Rattle.std.specs.Prelude.{◌≡◌, ◌+◌, ◌≤◌, ◌++◌, length, vec_len, vec_capacity}
use Rattle.std.specs.List.{AllByRecursion}
use Rattle.std.specs.Vec.Iter.{into_iter_items, into_iter_len}
use Rattle.session.specs.Sessions.{HasNumber, reports_of}
use Rattle.session.specs.Tasks.{seats_worked, jobs_worked, states_worked}
use Rattle.session.proofs.hand_over.take_back.Given as goal

abbrev pub invariant-loop-worked : goal.invariant-loop-worked
invariant-loop-worked g l =
    (l.seats.items ++ seats_worked (into_iter_items l.worked-iterator) ≡ seats_worked l.fn.done.items)
    × (l.jobs.items ++ jobs_worked (into_iter_items l.worked-iterator) ≡ jobs_worked l.fn.done.items)
    × (length (into_iter_items l.worked-iterator) ≡ into_iter_len l.worked-iterator)
    × (vec_len l.seats + into_iter_len l.worked-iterator ≤ vec_capacity l.seats)
    × (vec_len l.jobs + into_iter_len l.worked-iterator ≤ vec_capacity l.jobs)
    × (l.reports.items ++ reports_of l.fn.first (into_iter_items l.worked-iterator) ≡ reports_of l.fn.first l.fn.done.items)
    × (vec_len l.reports + into_iter_len l.worked-iterator ≤ vec_capacity l.reports)
    × AllByRecursion (HasNumber l.fn.first) (into_iter_items l.worked-iterator)
    × (l.states.items ++ states_worked (into_iter_items l.worked-iterator) ≡ states_worked l.fn.done.items)
    × (vec_len l.states + into_iter_len l.worked-iterator ≤ vec_capacity l.states)
