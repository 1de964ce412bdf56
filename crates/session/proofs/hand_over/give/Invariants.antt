use Rattle.std.specs.Prelude.{◌≡◌, ◌+◌, ◌≤◌, ◌++◌, length, vec_len, vec_capacity}
use Rattle.std.specs.Iterator.Adapters.{zip_first, zip_second}
use Rattle.std.specs.Vec.Iter.{into_iter_items, into_iter_len}
use Rattle.session.specs.Tasks.{seats_of, jobs_of}
use Rattle.session.proofs.hand_over.give.Given as goal

abbrev pub invariant-loop-seat : goal.invariant-loop-seat
invariant-loop-seat g l =
    let seats = zip_first l.seat-iterator in
    let jobs = zip_second l.seat-iterator in
    (seats_of l.tasks.items ++ into_iter_items seats ≡ l.fn.seats.items)
    × (jobs_of l.tasks.items ++ into_iter_items jobs ≡ l.fn.jobs.items)
    × (length (into_iter_items seats) ≡ into_iter_len seats)
    × (length (into_iter_items jobs) ≡ into_iter_len jobs)
    × (into_iter_len jobs ≡ into_iter_len seats)
    × (vec_len l.tasks + into_iter_len seats ≤ vec_capacity l.tasks)
