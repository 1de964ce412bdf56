use Rattle.std.proofs.Common.{rules, ◌≡◌, ◌∷◌, sym, ◌∙◌, subst}
use Rattle.std.specs.List.{AllByRecursion}
use Rattle.std.specs.Vec.Iter.{into_iter_items}
use Rattle.session.specs.Pairs.{ArePairs}
use Rattle.session.specs.Works.{IsFresh}
use Rattle.session.specs.Workers.{WorksOn}
use Rattle.session.proofs.Pairs.{halts_push, pairs_next, pairs_whole, pairs_length, none_left}
use Rattle.session.proofs.start.start_all.Goals as goal

pub loop-task-preserved : goal.loop-task-preserved
loop-task-preserved g c =
    let was = c.loop-task.invariant in
    let P = WorksOn g.C.Chooser g.S.Sink in
    let is : into_iter_items c.loop-task.task-iterator ≡ c.in-Some.task ∷ into_iter_items c.next.new.self = c.in-Some.ensures.steps.0 in
    let next = pairs_next P was.0.0 (into_iter_items c.loop-task.task-iterator) (into_iter_items c.next.new.self) c.args.tasks.items
    c.loop-task.workers.items c.in-Some.task c.start.result was.0.1 was.0.2 is c.start.ensures.works in
    let fresh : AllByRecursion IsFresh (c.in-Some.task ∷ into_iter_items c.next.new.self) =
    subst (λ l. AllByRecursion IsFresh l) is was.1 in (
      (next.0, next.1, subst (λ l. ArePairs P next.0 l) (sym c.push_reserved.ensures.items) next.2),
      fresh.1,
      search rules,
      search rules,
      halts_push c.loop-task.flusher c.start.new.flusher c.start.ensures.stays c.loop-task.workers.items _ c.start.result
          c.push_reserved.ensures.items was.4 c.start.ensures.halted,
      search rules,
    )

pub returns-clause-works : goal.returns-clause-works
returns-clause-works g c =
    let was = c.loop-task.invariant in
    pairs_whole (WorksOn g.C.Chooser g.S.Sink) was.0.0 (into_iter_items c.loop-task.task-iterator) c.args.tasks.items
    c.loop-task.workers.items was.0.1 was.0.2 (none_left _ (was.2 ∙ c.in-None.ensures.steps.0))

pub returns-clause-count : goal.returns-clause-count
returns-clause-count g c =
    let was = c.loop-task.invariant in
    sym (pairs_length (WorksOn g.C.Chooser g.S.Sink) c.args.tasks.items c.loop-task.workers.items
    (pairs_whole (WorksOn g.C.Chooser g.S.Sink) was.0.0 (into_iter_items c.loop-task.task-iterator) c.args.tasks.items
    c.loop-task.workers.items was.0.1 was.0.2 (none_left _ (was.2 ∙ c.in-None.ensures.steps.0))))
