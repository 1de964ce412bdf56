use Rattle.std.specs.Prelude.{◌≡◌, ◌+◌, ◌≤◌, List, ◌++◌, length, vec_len, vec_capacity}
use Rattle.std.specs.List.{AllByRecursion}
use Rattle.std.specs.Vec.Iter.{into_iter_items, into_iter_len}
use Rattle.session.specs.Pairs.{ArePairs}
use Rattle.session.specs.Works.{IsFresh}
use Rattle.session.specs.Workers.{HaltsFor, WorksOn}
use Rattle.session.proofs.start.start_all.Given as goal

abbrev pub invariant-loop-task : goal.invariant-loop-task
invariant-loop-task g l =
    ((front : List _) × (front ++ into_iter_items l.task-iterator ≡ l.fn.tasks.items) ×
    ArePairs (WorksOn g.C.Chooser g.S.Sink) front l.workers.items)
    × AllByRecursion IsFresh (into_iter_items l.task-iterator)
    × (length (into_iter_items l.task-iterator) ≡ into_iter_len l.task-iterator)
    × (vec_len l.workers + into_iter_len l.task-iterator ≤ vec_capacity l.workers)
    × AllByRecursion (HaltsFor l.flusher) l.workers.items
    × (l.flusher ≡ record l.initial.flusher { halted = l.flusher.halted })
