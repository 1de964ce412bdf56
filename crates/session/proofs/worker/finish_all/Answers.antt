use Rattle.std.proofs.Common.{rules, ◌≡◌, ◌∷◌, [], sym, ◌∙◌, subst}
use Rattle.std.specs.Vec.Iter.{into_iter_items}
use Rattle.session.specs.Pairs.{ArePairs}
use Rattle.session.specs.Works.{HasWorked}
use Rattle.session.specs.Workers.{WorksOn}
use Rattle.session.proofs.Pairs.{moved, pairs_whole, pairs_none, none_left}
use Rattle.session.proofs.worker.finish_all.Goals as goal

pub loop-worker-preserved : goal.loop-worker-preserved
loop-worker-preserved g c =
    let was = c.loop-worker.invariant in
    let P = WorksOn g.C.Chooser g.S.Sink in
    let Q = HasWorked g.C.Chooser g.S.Sink in
    let is : into_iter_items c.loop-worker.worker-iterator ≡ c.in-Some.worker ∷ into_iter_items c.next.new.self =
    c.in-Some.ensures.steps.0 in (
      (λ tasks pairs.
          let w = was.0 tasks pairs in
          let m = moved P Q w.0 w.1 tasks c.loop-worker.done.items (into_iter_items c.next.new.self) c.in-Some.worker c.finish.result w.2
          w.3 (subst (λ l. ArePairs P w.1 l) is w.4) c.finish.ensures in
          (m.0, m.1, m.2, subst (λ l. ArePairs Q m.0 l) (sym c.push_reserved.ensures.items) m.3, m.4)),
      search rules,
      search rules,
    )

pub returns : goal.returns
returns g c =
    let was = c.loop-worker.invariant in
    let P = WorksOn g.C.Chooser g.S.Sink in
    let Q = HasWorked g.C.Chooser g.S.Sink in
    let none : into_iter_items c.loop-worker.worker-iterator ≡ [] = none_left _ (was.1 ∙ c.in-None.ensures.steps.0) in
    λ tasks pairs. let w =
    was.0 tasks pairs in
    pairs_whole Q w.0 w.1 tasks c.loop-worker.done.items w.2 w.3 (pairs_none P w.1 (subst (λ l. ArePairs P w.1 l) none w.4))
