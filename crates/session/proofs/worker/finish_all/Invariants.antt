use Rattle.std.specs.Prelude.{◌≡◌, ◌+◌, ◌≤◌, List, ◌++◌, length, vec_len, vec_capacity}
use Rattle.std.specs.Vec.Iter.{into_iter_items, into_iter_len}
use Rattle.session.specs.Pairs.{ArePairs}
use Rattle.session.specs.Works.{HasWorked}
use Rattle.session.specs.Workers.{WorksOn}
use Rattle.session.proofs.worker.finish_all.Given as goal

abbrev pub invariant-loop-worker : goal.invariant-loop-worker
invariant-loop-worker g l =
    ((tasks : List _) → ArePairs (WorksOn g.C.Chooser g.S.Sink) tasks l.fn.workers.items
    → (front : List _) × (rest : List _) × (front ++ rest ≡ tasks) × ArePairs (HasWorked g.C.Chooser g.S.Sink) front l.done.items ×
    ArePairs (WorksOn g.C.Chooser g.S.Sink) rest (into_iter_items l.worker-iterator))
    × (length (into_iter_items l.worker-iterator) ≡ into_iter_len l.worker-iterator)
    × (vec_len l.done + into_iter_len l.worker-iterator ≤ vec_capacity l.done)
